use Rattle.std.proofs.Common.{◌≡◌, Some, Ok, rules}
use Rattle.rx_value.specs.Named.{named}
use Rattle.rx_value.proofs.Outcomes.{if_ok}
use Rattle.rx_handler.specs.Shown.{kinds_of}
use Rattle.rx_world.specs.Holders.{world_in}
use Rattle.rx_sync.specs.Exchange.{taken_as}
use Rattle.rx_sync.specs.Laws.{ComeSoundly, KeepsPendingIn, PullLeavesNone}
use Rattle.rx_sync.specs.Shown.{record_in}
use Rattle.rx_sync.specs.Taking.{recorded}
use Rattle.rx_sync.specs.declared.fault.TakeFault.TheVariants.{Memory}
use Rattle.rx_sync.proofs.Calls.{due_ok, taken_keeps, taken_of, taken_pulled, taken_soundly}
use Rattle.rx_sync.proofs.taking.take.Goals as goal

pub accept-requires-clause-rows : goal.accept-requires-clause-rows
accept-requires-clause-rows g c =
    let r = c.find_replication-replication in
    let fork = c.find_fork-fork in
    (c.requires.asked r.result.now r.ensures.found fork.result.now fork.ensures.found).lawful.apart

pub returns-clause-next : goal.returns-clause-next
returns-clause-next g c = λ answered.
    let w = world_in g.H.Holder.held c.args.world.now in
    let name = c.args.name.now in
    let link = c.find_replication-replication in
    let r = link.result.now in
    let at = link.ensures.found in
    let fork = c.find_fork-fork.result.now in
    let held = c.find_fork-fork.ensures.found in
    let kinds = kinds_of c.args.handlers.now in
    let kind = c.find_handler-handler.result.now.kind in
    let handler : named kinds r.handler ≡ Some kind = search rules in
    let asked = c.args.asked.now in
    let reply = c.args.reply.now in
    let now = c.args.now in
    let plan = c.in_ok-plan.plan in
    if_ok c.record_of.result (λ entry. recorded name now fork r.side plan ≡ Ok (record_in entry))
    (λ entry. ComeSoundly w (record_in entry))
    (due_ok Memory record_in c.record_of.result (recorded name now fork r.side plan)
    c.record_of.ensures)
    (λ entry is.
    taken_soundly w link.ensures.made c.requires.sound name r at fork held kinds kind handler now
    asked
    reply c.requires.asked c.requires.reply (record_in entry)
    (taken_of name now asked reply r fork kind c.field_of-field.result.now c.field_of-field.ensures
    plan
    c.in_ok-plan.ensures.exact (record_in entry) is) answered)

pub returns-clause-keeps : goal.returns-clause-keeps
returns-clause-keeps g c =
    let w = world_in g.H.Holder.held c.args.world.now in
    let name = c.args.name.now in
    let link = c.find_replication-replication in
    let r = link.result.now in
    let at = link.ensures.found in
    let fork = c.find_fork-fork.result.now in
    let held = c.find_fork-fork.ensures.found in
    let kinds = kinds_of c.args.handlers.now in
    let kind = c.find_handler-handler.result.now.kind in
    let handler : named kinds r.handler ≡ Some kind = search rules in
    let asked = c.args.asked.now in
    let reply = c.args.reply.now in
    let now = c.args.now in
    let plan = c.in_ok-plan.plan in
    if_ok c.record_of.result (λ entry. recorded name now fork r.side plan ≡ Ok (record_in entry))
    (λ entry. KeepsPendingIn w kinds name reply (record_in entry))
    (due_ok Memory record_in c.record_of.result (recorded name now fork r.side plan)
    c.record_of.ensures)
    (λ entry is.
    taken_keeps w link.ensures.made c.requires.sound name r at fork held kinds kind handler now
    asked
    reply c.requires.asked c.requires.reply (record_in entry)
    (taken_of name now asked reply r fork kind c.field_of-field.result.now c.field_of-field.ensures
    plan
    c.in_ok-plan.ensures.exact (record_in entry) is))

pub returns-clause-pulled : goal.returns-clause-pulled
returns-clause-pulled g c =
    let w = world_in g.H.Holder.held c.args.world.now in
    let name = c.args.name.now in
    let link = c.find_replication-replication in
    let r = link.result.now in
    let at = link.ensures.found in
    let fork = c.find_fork-fork.result.now in
    let held = c.find_fork-fork.ensures.found in
    let kinds = kinds_of c.args.handlers.now in
    let kind = c.find_handler-handler.result.now.kind in
    let handler : named kinds r.handler ≡ Some kind = search rules in
    let asked = c.args.asked.now in
    let reply = c.args.reply.now in
    let now = c.args.now in
    let plan = c.in_ok-plan.plan in
    if_ok c.record_of.result (λ entry. recorded name now fork r.side plan ≡ Ok (record_in entry))
    (λ entry. PullLeavesNone w name (record_in entry)
    (Some (taken_as asked.request.ask reply.body)))
    (due_ok Memory record_in c.record_of.result (recorded name now fork r.side plan)
    c.record_of.ensures)
    (λ entry is.
    taken_pulled w link.ensures.made c.requires.sound name r at fork held kinds kind handler now
    asked
    reply c.requires.asked c.requires.reply (record_in entry)
    (taken_of name now asked reply r fork kind c.field_of-field.result.now c.field_of-field.ensures
    plan
    c.in_ok-plan.ensures.exact (record_in entry) is))
