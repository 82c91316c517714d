use Rattle.std.proofs.Common.{◌≡◌, ◌-◌, ◌∷◌, ◌++◌, drop}
use Rattle.std.specs.List.{flat_map}
use Rattle.rx_tree.specs.Orders.{forks_of, levels_down}
use Rattle.rx_tree.proofs.orders.+levels_down.Given as goal

abbrev pub decreases-levels_down : goal.decreases-levels_down
decreases-levels_down l = l.levels

-- those so far, and then those at and below the forks that are left
abbrev pub invariant-loop-fork : goal.invariant-loop-fork
invariant-loop-fork l =
    flat_map (λ c. c ∷ levels_down (forks_of l.forks) (l.levels - 1) c) l.fork-items
    ≡ l.order.items
    ++ flat_map (λ c. c ∷ levels_down (forks_of l.forks) (l.levels - 1) c)
    (drop l.fork-index l.fork-items)
