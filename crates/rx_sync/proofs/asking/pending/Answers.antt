use Rattle.rx_world.specs.Holders.{world_in}
use Rattle.rx_sync.proofs.Calls.{none_pending}
use Rattle.rx_sync.proofs.asking.pending.Goals as goal

pub pending-requires : goal.pending-requires
pending-requires g c =
    let r = c.find_replication-replication in
    none_pending (world_in g.H.Holder.held c.args.world.now) r.ensures.made c.args.name.now
    r.result.now
    r.ensures.found c.find_fork-fork.result.now c.find_fork-fork.ensures.found c.requires.sound
