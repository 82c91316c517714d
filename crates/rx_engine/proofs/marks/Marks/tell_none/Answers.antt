use Rattle.std.proofs.Common.{◌∙◌, ℕ, List, Option, Some, ap, sym}
use Rattle.rx_value.specs.Named.{named}
use Rattle.rx_value.proofs.Named.{lookup-by_bytes}
use Rattle.rx_session.specs.Placed.{world_of}
use Rattle.rx_engine.proofs.Marking.{told_by}
use Rattle.rx_engine.proofs.marks.Marks.tell_none.Goals as goal

pub returns-in-Some-Some : goal.returns-in-Some-Some
returns-in-Some-Some c is =
    let name = c.args.name.now in
    let lwt = c.in-Some-Some.lwt in
    told_by (world_of c.args.world.now) name lwt
    (c.requires.marked name lwt
    (ap (λ (l : List (List ℕ × Option ℕ)). named l name) (sym c.self.view_is)
    ∙ sym (lookup-by_bytes c.self.inside.by_name.entries name) ∙ sym c.in-Some-Some.ensures.value
    ∙ ap Some c.in-Some-Some.field-0-is))
    (c.was_last.ensures is)
