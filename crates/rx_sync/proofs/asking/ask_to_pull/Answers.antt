use Rattle.std.proofs.Common.{◌≡◌}
use Rattle.rx_value.proofs.Outcomes.{if_ok}
use Rattle.rx_fork.specs.Asked.{asked_of}
use Rattle.rx_world.specs.Holders.{world_in}
use Rattle.rx_sync.specs.Laws.{IsDueIn}
use Rattle.rx_sync.proofs.Calls.{due_in}
use Rattle.rx_sync.proofs.Pulls.{none_to_push}
use Rattle.rx_sync.proofs.asking.ask_to_pull.Goals as goal

pub ask_to_pull-requires : goal.ask_to_pull-requires
ask_to_pull-requires g c =
    let r = c.find_replication-replication in
    let fork = c.find_fork-fork in
    none_to_push (world_in g.H.Holder.held c.args.world.now) c.args.name.now r.result.now
    fork.result.now r.ensures.found fork.ensures.found c.requires.none

pub returns-clause-due : goal.returns-clause-due
returns-clause-due g c =
    let r = c.find_replication-replication in
    let fork = c.find_fork-fork in
    let w = world_in g.H.Holder.held c.args.world.now in
    if_ok c.ask_to_pull.result
    (λ asked. asked ≡ asked_of fork.result.now.documents r.result.now.side c.epoch.result c.args.n
    c.args.batch) (λ asked. IsDueIn w c.args.name.now asked) c.ask_to_pull.ensures.asked
    (due_in w r.ensures.made c.args.name.now r.result.now r.ensures.found fork.result.now
    fork.ensures.found c.epoch.result c.args.n c.args.batch c.requires.batch)
