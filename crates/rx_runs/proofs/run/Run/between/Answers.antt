use Rattle.std.proofs.Common.{suc, get_or, ◌+◌, ◌-◌, ◌∙◌, ◌++◌, [], add-one, ap, take, drop, append-nil, append_assoc}
use Rattle.rx_runs.specs.Run.{flat, from_name, below_name, between}
use Rattle.rx_runs.proofs.Chunks.{between_one, between_in}
use Rattle.rx_runs.proofs.run.Run.between.Goals as goal

pub returns-then-j-i-clause-value : goal.returns-then-j-i-clause-value
returns-then-j-i-clause-value g c =
    let low = c.args.low.now in
    let high = c.args.high.now in
    let cs = c.self.inside.chunks.items in
    let is_low = rw c.as_slice.ensures.value at c.chunk_of-i.ensures in
    let is_high = rw c.as_slice-2.ensures.value at c.chunk_of-j.ensures in
    c.new-then-j-i.ensures ∙ append-nil (c.below.result.now ++ []) ∙ append-nil c.below.result.now
    ∙ c.below.ensures
    ∙ ap (λ es. below_name es high)
    (c.from-first.ensures.value ∙ ap (λ h. from_name h.1 low) c.index.ensures)
    ∙ between_one low high cs c.chunk_of-i.result c.chunk_of-j.result c.index.result.now
    c.self.invariant.0.parted is_low is_high c.if-j-i.true
    ∙ ap (λ es. between es low high) c.self.view_is

pub returns-clause-value : goal.returns-clause-value
returns-clause-value g c =
    let low = c.args.low.now in
    let high = c.args.high.now in
    let cs = c.self.inside.chunks.items in
    let i = c.chunk_of-i.result in
    let j = c.chunk_of-j.result in
    let is_low = rw c.as_slice.ensures.value at c.chunk_of-i.ensures in
    let is_high = rw c.as_slice-2.ensures.value at c.chunk_of-j.ensures in
    let first = c.from-first.ensures.value ∙ ap (λ h. from_name h.1 low) c.index.ensures in
    let after = c.split_at.ensures.back ∙ ap (drop (i + 1)) c.as_slice-3.ensures.value
    ∙ ap (λ n. drop n cs) (add-one i) in
    let whole = c.split_at-2.ensures.front ∙ ap (take (j - i - 1)) after in
    let last = c.below-2.ensures
    ∙ ap (λ es. below_name es high) (c.pairs.ensures.value ∙ ap (λ h. h.1) c.index-2.ensures) in
    c.new-2.ensures ∙ (λ x. first x ++ flat (whole x) ++ last x)
    ∙ append_assoc (from_name (get_or cs i c.index.result.now).1 low)
    (flat (take (j - i - 1) (drop (suc i) cs)))
    (below_name (get_or cs j c.index-2.result.now).1 high)
    ∙ between_in low high cs i j c.index.result.now c.index-2.result.now c.self.invariant.0.parted
    is_low is_high c.if-j-i.false
    ∙ ap (λ es. between es low high) c.self.view_is
