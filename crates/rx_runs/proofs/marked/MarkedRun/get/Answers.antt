use Rattle.std.proofs.Common.{◌∙◌, ap, sym}
use Rattle.std.specs.Option.{option_or}
use Rattle.rx_value.specs.Named.{named}
use Rattle.rx_runs.specs.Marked.{Marked, all_slots}
use Rattle.rx_runs.proofs.Sides.{named-merged}
use Rattle.rx_runs.proofs.marked.MarkedRun.get.Goals as goal

pub returns-in-Some : goal.returns-in-Some
returns-in-Some c =
    let k = c.args.name.now in
    let marked = c.self.inside.marked in
    ap (λ o. option_or o (named marked k)) c.in-Some.ensures.value
    ∙ sym (named-merged c.self.inside.plain marked k)
    ∙ ap (λ (m : Marked). named (all_slots m) k) c.self.view_is

pub returns-in-None : goal.returns-in-None
returns-in-None c =
    let k = c.args.name.now in
    let marked = c.self.inside.marked in
    c.copied.ensures ∙ c.get-in-None.ensures.value
    ∙ ap (λ o. option_or o (named marked k)) c.in-None.ensures.value
    ∙ sym (named-merged c.self.inside.plain marked k)
    ∙ ap (λ (m : Marked). named (all_slots m) k) c.self.view_is
