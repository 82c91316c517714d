use Rattle.std.proofs.Common.{◌≡◌, ◌++◌}
use Rattle.std.specs.Vec.Iter.{into_iter_items}
use Rattle.rx_fork.proofs.lists.in_order.Given as goal

-- the states so far, and those to come
abbrev pub invariant-loop-state : goal.invariant-loop-state
invariant-loop-state l =
    l.list ++ into_iter_items l.state-iterator ≡ into_iter_items l.initial.state-iterator
