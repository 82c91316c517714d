use Rattle.std.proofs.Common.{◌≡◌}
use Rattle.rx_value.proofs.Outcomes.{if_ok}
use Rattle.rx_fork.specs.Asked.{asked_of}
use Rattle.rx_world.specs.Holders.{world_in}
use Rattle.rx_sync.specs.Laws.{IsDueIn}
use Rattle.rx_sync.proofs.Calls.{due_in, none_pending}
use Rattle.rx_sync.proofs.asking.ask.Goals as goal

pub ask-requires : goal.ask-requires
ask-requires g c =
    let r = c.find_replication-replication in
    none_pending (world_in g.H.Holder.held c.args.world.now) r.ensures.made c.args.name.now
    r.result.now
    r.ensures.found c.find_fork-fork.result.now c.find_fork-fork.ensures.found c.requires.sound

pub returns-clause-due : goal.returns-clause-due
returns-clause-due g c =
    let r = c.find_replication-replication in
    let fork = c.find_fork-fork in
    let w = world_in g.H.Holder.held c.args.world.now in
    if_ok c.ask.result
    (λ asked. asked ≡ asked_of fork.result.now.documents r.result.now.side c.epoch.result c.args.n
    c.args.batch) (λ asked. IsDueIn w c.args.name.now asked) c.ask.ensures.asked
    (due_in w r.ensures.made c.args.name.now r.result.now r.ensures.found fork.result.now
    fork.ensures.found c.epoch.result c.args.n c.args.batch c.requires.batch)
