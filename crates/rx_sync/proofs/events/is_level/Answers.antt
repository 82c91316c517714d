use Rattle.std.proofs.Common.{◌∙◌, sym}
use Rattle.rx_value.proofs.Outcomes.{some_same}
use Rattle.rx_world.specs.Holders.{world_in}
use Rattle.rx_sync.proofs.Calls.{none_pending}
use Rattle.rx_sync.proofs.Levels.{level_here}
use Rattle.rx_sync.proofs.Pulls.{pending_is}
use Rattle.rx_sync.proofs.events.is_level.Goals as goal

pub is_level_link-requires-clause-below : goal.is_level_link-requires-clause-below
is_level_link-requires-clause-below g c =
    let r = c.find_replication-replication in
    none_pending (world_in g.H.Holder.held c.args.world.now) r.ensures.made c.args.name.now
    r.result.now r.ensures.found c.find_fork-fork.result.now c.find_fork-fork.ensures.found
    c.requires.sound

pub is_level_link-requires-clause-none : goal.is_level_link-requires-clause-none
is_level_link-requires-clause-none g c = λ is.
    let r = c.find_replication-replication in
    some_same
    (sym (pending_is (world_in g.H.Holder.held c.args.world.now) c.args.name.now r.result.now
    c.find_fork-fork.result.now r.ensures.found c.find_fork-fork.ensures.found)
    ∙ c.requires.none is)

pub returns : goal.returns
returns g c =
    let r = c.find_replication-replication in
    let fork = c.find_fork-fork in
    let master = c.find_master-master in
    c.is_level_link.ensures
    ∙ level_here (world_in g.H.Holder.held c.args.world.now) c.args.name.now
    c.requires.master r.result.now r.ensures.found fork.result.now master.result.now
    fork.ensures.found master.ensures
