use Rattle.std.proofs.Common.{◌≡◌, ◌++◌, drop, map}
use Rattle.rx_world.specs.Holders.{world_in}
use Rattle.rx_sync.specs.Sweep.{steps_of}
use Rattle.rx_sync.proofs.sweeping.add_steps.Given as goal

-- those so far, and then those that are left
abbrev pub invariant-loop-fork : goal.invariant-loop-fork
invariant-loop-fork g l =
    let rs = (world_in g.H.Holder.held l.world).replications in
    l.steps.items ++ steps_of rs l.pass (map (λ t. t.now) (drop l.fork-index l.forks))
    ≡ l.initial.steps.items ++ steps_of rs l.pass (map (λ t. t.now) l.forks)
