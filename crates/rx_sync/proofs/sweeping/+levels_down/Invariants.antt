use Rattle.std.proofs.Common.{◌≡◌, ◌-◌, ◌∷◌, ◌++◌, drop, map}
use Rattle.std.specs.List.{flat_map}
use Rattle.rx_tree.specs.Orders.{levels_down}
use Rattle.rx_sync.specs.Sweep.{forks_among}
use Rattle.rx_sync.proofs.sweeping.+levels_down.Given as goal

abbrev pub decreases-levels_down : goal.decreases-levels_down
decreases-levels_down l = l.levels

-- those so far, and then those of the forks that are left
abbrev pub invariant-loop-fork : goal.invariant-loop-fork
invariant-loop-fork l =
    flat_map (λ c. c ∷ levels_down (forks_among (map (λ r. r.now) l.forks)) (l.levels - 1) c)
    (map (λ t. t.now) l.fork-items)
    ≡ map (λ t. t.now) l.order.items
    ++ flat_map (λ c. c ∷ levels_down (forks_among (map (λ r. r.now) l.forks)) (l.levels - 1) c)
    (map (λ t. t.now) (drop l.fork-index l.fork-items))
