use Rattle.std.proofs.Common.{◌≡◌, map, take}
use Rattle.rx_world.specs.Holders.{world_in}
use Rattle.rx_sync.specs.Sweep.{by_fork}
use Rattle.rx_sync.proofs.sweeping.forks_in_order.Given as goal

-- those of the collections so far
abbrev pub invariant-loop-at : goal.invariant-loop-at
invariant-loop-at g l =
    let w = world_in g.H.Holder.held l.world in
    map (λ r. r.now) l.list.items
    ≡ by_fork w.replications (map (λ e. e.0) (take l.at w.collections))
