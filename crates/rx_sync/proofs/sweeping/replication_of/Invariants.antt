use Rattle.std.proofs.Common.{◌≡◌, drop}
use Rattle.rx_world.specs.Holders.{world_in}
use Rattle.rx_sync.specs.Sweep.{entry_of}
use Rattle.rx_sync.proofs.sweeping.replication_of.Given as goal

-- those to come decide
abbrev pub invariant-loop-at : goal.invariant-loop-at
invariant-loop-at g l =
    entry_of (drop l.at (world_in g.H.Holder.held l.world).replications) l.fork
    ≡ entry_of (world_in g.H.Holder.held l.world).replications l.fork
