use Rattle.std.proofs.Common.{◌-◌, ◌∙◌, ap, List, ℕ, Some, None, reverse, slice_get, arith}
use Rattle.rx_index.proofs.Lent.{back_far_is, back_far_shown, back_near_is, back_near_shown, back_past}
use Rattle.rx_index.proofs.range.Range.at_back.Goals as goal

pub invariant_of-result : goal.invariant_of-result
invariant_of-result c =
    let r = c.self.inside in
    back_far_is r.packed r.near r.far c.self.invariant c.args.i
    (c.in-Some.name.now, c.in-Some.slot.now) c.in-Some.ensures

pub returns-in-Some : goal.returns-in-Some
returns-in-Some c =
    let r = c.self.inside in
    back_far_shown r.packed r.near r.far c.self.invariant c.args.i
    (c.in-Some.name.now, c.in-Some.slot.now) c.in-Some.ensures
    ∙ ap (λ (ids : List (List ℕ)). slice_get (reverse ids) c.args.i) c.self.view_is

pub len-requires : goal.len-requires
len-requires c =
    let r = c.self.inside in
    let past = back_past r.packed r.near r.far c.self.invariant c.args.i c.in_default.ensures in
    omega (arith, past, c.ranges.i.fits)

pub overflow_sub-i : goal.overflow_sub-i
overflow_sub-i c =
    let r = c.self.inside in
    let past = back_past r.packed r.near r.far c.self.invariant c.args.i c.in_default.ensures in
    omega (arith, past, c.len.ensures)

pub returns-in_err-name : goal.returns-in_err-name
returns-in_err-name c =
    let r = c.self.inside in
    c.from_residual.ensures
    ∙ back_near_shown r.packed r.near r.far c.self.invariant c.args.i None c.in_default.ensures
    (c.in_err-name.ensures ∙ ap (λ n. slice_get (reverse r.near) (c.args.i - n)) c.len.ensures)
    ∙ ap (λ (ids : List (List ℕ)). slice_get (reverse ids) c.args.i) c.self.view_is

pub invariant_of-result-2 : goal.invariant_of-result-2
invariant_of-result-2 c =
    let r = c.self.inside in
    let e : List ℕ × ℕ = (c.in_ok-name.name.now, c.in_ok-name.slot.now) in
    back_near_is r.packed r.near r.far c.self.invariant c.args.i e c.in_default.ensures
    (c.in_ok-name.ensures ∙ ap (λ n. slice_get (reverse r.near) (c.args.i - n)) c.len.ensures)

pub returns : goal.returns
returns c =
    let r = c.self.inside in
    let e : List ℕ × ℕ = (c.in_ok-name.name.now, c.in_ok-name.slot.now) in
    back_near_shown r.packed r.near r.far c.self.invariant c.args.i (Some e) c.in_default.ensures
    (c.in_ok-name.ensures ∙ ap (λ n. slice_get (reverse r.near) (c.args.i - n)) c.len.ensures)
    ∙ ap (λ (ids : List (List ℕ)). slice_get (reverse ids) c.args.i) c.self.view_is
