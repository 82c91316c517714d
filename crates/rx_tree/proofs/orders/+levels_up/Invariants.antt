use Rattle.std.proofs.Common.{◌≡◌, ◌-◌, [], ◌∷◌, ◌++◌, drop}
use Rattle.std.specs.List.{flat_map}
use Rattle.rx_tree.specs.Orders.{forks_of, levels_up}
use Rattle.rx_tree.proofs.orders.+levels_up.Given as goal

abbrev pub decreases-levels_up : goal.decreases-levels_up
decreases-levels_up l = l.levels

-- those so far, and then those below and at the forks that are left
abbrev pub invariant-loop-fork : goal.invariant-loop-fork
invariant-loop-fork l =
    flat_map (λ c. levels_up (forks_of l.forks) (l.levels - 1) c ++ c ∷ []) l.fork-items
    ≡ l.order.items
    ++ flat_map (λ c. levels_up (forks_of l.forks) (l.levels - 1) c ++ c ∷ [])
    (drop l.fork-index l.fork-items)
