use Rattle.std.proofs.Common.{◌∙◌, true, false, ap, sym, subst}
use Rattle.rx_value.specs.Named.{named, without}
use Rattle.rx_runs.specs.Marked.{Marked, sides, all_slots, AreSides, IsSide}
use Rattle.rx_runs.proofs.Sides.{all_turned, sides_marked, sides_plain}
use Rattle.rx_runs.proofs.marked.MarkedRun.turn.Goals as goal

pub invariant_of-self-then-mark : goal.invariant_of-self-then-mark
invariant_of-self-then-mark c =
    let m = sides c.self.inside.plain c.self.inside.marked in
    let name = c.args.name.now in
    let put = c.in_ok-put.ensures.ok in
    let left = c.remove.ensures.others ∙ ap (without m.plain) c.as_bytes.ensures.value in
    subst AreSides (λ i. sides (sym left i) (sym put i))
    (sides_marked m c.self.invariant name c.args.slot
    (subst IsSide put c.in_ok-put.ensures.lawful))

pub invariant_of-self-else-mark : goal.invariant_of-self-else-mark
invariant_of-self-else-mark c =
    let m = sides c.self.inside.plain c.self.inside.marked in
    let name = c.args.name.now in
    let put = c.in_ok-put-2.ensures.ok in
    let left = c.remove-else-mark.ensures.others
    ∙ ap (without m.marked) c.as_bytes-else-mark.ensures.value in
    subst AreSides (λ i. sides (sym put i) (sym left i))
    (sides_plain m c.self.invariant name c.args.slot
    (subst IsSide put c.in_ok-put-2.ensures.lawful))

pub returns-in_ok-put-clause-all : goal.returns-in_ok-put-clause-all
returns-in_ok-put-clause-all c =
    let m = sides c.self.inside.plain c.self.inside.marked in
    let name = c.args.name.now in
    let left = c.remove.ensures.others ∙ ap (without m.plain) c.as_bytes.ensures.value in
    (λ i. all_slots (sides (left i) (c.in_ok-put.ensures.ok i)))
    ∙ all_turned m c.self.invariant name c.args.slot true
    (ap (λ (n : Marked). named (all_slots n) name) c.self.view_is ∙ c.requires)
    ∙ ap all_slots c.self.view_is

pub returns-in_ok-put-2-clause-all : goal.returns-in_ok-put-2-clause-all
returns-in_ok-put-2-clause-all c =
    let m = sides c.self.inside.plain c.self.inside.marked in
    let name = c.args.name.now in
    let left = c.remove-else-mark.ensures.others
    ∙ ap (without m.marked) c.as_bytes-else-mark.ensures.value in
    (λ i. all_slots (sides (c.in_ok-put-2.ensures.ok i) (left i)))
    ∙ all_turned m c.self.invariant name c.args.slot false
    (ap (λ (n : Marked). named (all_slots n) name) c.self.view_is ∙ c.requires)
    ∙ ap all_slots c.self.view_is
