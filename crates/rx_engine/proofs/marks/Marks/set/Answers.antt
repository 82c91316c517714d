use Rattle.std.proofs.Common.{◌≡◌, ◌∙◌, ℕ, List, Option, Some, IfSome, ap, sym, subst}
use Rattle.rx_value.specs.Named.{by_bytes, put_named}
use Rattle.rx_value.proofs.Named.{by_bytes-insert_entry}
use Rattle.rx_value.proofs.Outcomes.{not_none}
use Rattle.rx_session.specs.Placed.{world_of}
use Rattle.rx_world.specs.World.{World}
use Rattle.rx_engine.specs.Marks.{AreMarked, AreMarkedBut, IsLastWrite, IsMarked}
use Rattle.rx_engine.proofs.Marking.{marked_last, marked_put}
use Rattle.rx_engine.proofs.marks.Marks.set.Goals as goal
use Rattle.rx_engine.proofs.marks.Marks.set.Goals.{then-none, else-none}

pub returns : goal.returns
returns c =
    let w : World = world_of c.args.world.now in
    let name = c.args.name.now in
    let es = c.self.inside.by_name.entries in
    let mark = c.if-none.mark in
    let put : by_bytes c.insert.new.self.entries ≡ put_named (by_bytes es) name mark =
    ap by_bytes c.in_ok-insert.ensures.entries
    ∙ by_bytes-insert_entry es c.in_ok-from_str.field-0 mark
    ∙ ap (λ (k : List ℕ). put_named (by_bytes es) k mark) c.in_ok-from_str.ensures.ok in
    let here : (lwt : ℕ) → mark ≡ Some lwt → IsMarked w name lwt =
    λ lwt some. elim c.if-none.branch [
      | then-none b ↦ marked_last w name lwt
          (subst (λ (o : Option ℕ). IfSome o (IsLastWrite w name)) (sym b.mark-is ∙ some)
          b.last_write-mark.ensures)
          (c.requires.none b.if-none.true)
      | else-none b ↦ not_none (sym b.mark-is ∙ some)
    ] in
    subst (AreMarked w) (sym put)
    (marked_put w (by_bytes es) name mark
    (subst (AreMarkedBut name w) (sym c.self.view_is) c.requires.others) here)
