use Rattle.std.proofs.Common.{◌≡◌, ◌-◌, [], ◌∷◌, ◌++◌, drop, map}
use Rattle.std.specs.List.{flat_map}
use Rattle.rx_tree.specs.Orders.{levels_up}
use Rattle.rx_sync.specs.Sweep.{forks_among}
use Rattle.rx_sync.proofs.sweeping.+levels_up.Given as goal

abbrev pub decreases-levels_up : goal.decreases-levels_up
decreases-levels_up l = l.levels

-- those so far, and then those of the forks that are left
abbrev pub invariant-loop-fork : goal.invariant-loop-fork
invariant-loop-fork l =
    flat_map (λ c. levels_up (forks_among (map (λ r. r.now) l.forks)) (l.levels - 1) c ++ c ∷ [])
    (map (λ t. t.now) l.fork-items)
    ≡ map (λ t. t.now) l.order.items
    ++ flat_map (λ c. levels_up (forks_among (map (λ r. r.now) l.forks)) (l.levels - 1) c ++ c ∷ [])
    (map (λ t. t.now) (drop l.fork-index l.fork-items))
