use Rattle.std.proofs.Common.{rules, arith, ◌++◌, append-nil, sym, ap, ◌∙◌}
use Rattle.std.proofs.lemmas.Fn.{always_returns_same}
use Rattle.std.proofs.lemmas.List.Sorted.{ranks_by}
use Rattle.std.specs.Ordering.{is_lt}
use Rattle.std.specs.Vec.Iter.{into_iter_items}
use Rattle.rx_value.specs.Order.{text_cmp}
use Rattle.rx_value.specs.declared.state.State.{State}
use Rattle.rx_value.proofs.Ordered.{text_total}
use Rattle.rx_collection.proofs.Last.{empty_of}
use Rattle.rx_collection.proofs.Rows.{sort_gives}
use Rattle.rx_fork.proofs.lists.in_order.Goals as goal

-- the closure compares keys
pub returns : goal.returns
returns c =
    let list = c.loop-state.list in
    let left = c.loop-state.state-iterator in
    let ended = c.in-None.ensures.steps in
    let whole = left.rest.ok in
    let none = empty_of (into_iter_items left) (λ h. absurd (omega arith)) in
    let sorted = sort_gives c.args.states.items c.sort_unstable_by.new.self.items c.requires
    c.sort_unstable_by.ensures.permutation
    (c.sort_unstable_by.ensures.sorted (λ a b. is_lt (text_cmp a.key b.key))
    (ranks_by text_total (λ (a : State). a.key))
    (always_returns_same _ _ _ (λ a r f k. search rules))) in
    sym (append-nil list) ∙ ap (λ ss. list ++ ss) (sym none) ∙ c.loop-state.invariant
    ∙ c.into_iter-state-iterator.ensures.into_iter_gives.0 ∙ sorted
