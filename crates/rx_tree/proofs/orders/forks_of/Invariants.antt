use Rattle.std.proofs.Common.{◌≡◌}
use Rattle.std.specs.List.{filter}
use Rattle.std.specs.Prelude.{◌==◌}
use Rattle.rx_tree.specs.Forest.{follows}
use Rattle.rx_tree.specs.Orders.{numbers_below}
use Rattle.rx_tree.proofs.orders.forks_of.Given as goal

-- those of the numbers so far
abbrev pub invariant-loop-fork : goal.invariant-loop-fork
invariant-loop-fork l =
    l.found.items ≡ filter (follows ◌==◌ l.forks l.collection) (numbers_below l.fork)
