use Rattle.std.proofs.Common.{◌-◌, ◌∙◌, ap, List, ℕ, Some, slice_get}
use Rattle.rx_index.proofs.Lent.{far_is, far_shown}
use Rattle.rx_index.proofs.range.Range.at.Goals as goal

pub invariant_of-result-2 : goal.invariant_of-result-2
invariant_of-result-2 c =
    let r = c.self.inside in
    let e : List ℕ × ℕ = (c.in_ok-name.name.now, c.in_ok-name.slot.now) in
    far_is r.packed r.near r.far c.self.invariant c.args.i e c.in_default.ensures
    (c.in_ok-name.ensures ∙ ap (λ n. slice_get r.far (c.args.i - n)) c.len.ensures)

pub returns : goal.returns
returns c =
    let r = c.self.inside in
    let e : List ℕ × ℕ = (c.in_ok-name.name.now, c.in_ok-name.slot.now) in
    far_shown r.packed r.near r.far c.self.invariant c.args.i (Some e) c.in_default.ensures
    (c.in_ok-name.ensures ∙ ap (λ n. slice_get r.far (c.args.i - n)) c.len.ensures)
    ∙ ap (λ (ids : List (List ℕ)). slice_get ids c.args.i) c.self.view_is
