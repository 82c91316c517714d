use Rattle.std.proofs.Common.{◌≡◌, ◌∙◌, Some, Ok, sym, subst}
use Rattle.std.specs.Option.{IsSomeAnd}
use Rattle.rx_value.specs.Due.{DueBy}
use Rattle.rx_value.proofs.Outcomes.{if_ok, some_same}
use Rattle.rx_world.specs.Holders.{world_in}
use Rattle.rx_sync.specs.Asking.{pending_in}
use Rattle.rx_sync.specs.Events.{event_by}
use Rattle.rx_sync.specs.Exchange.{world_after}
use Rattle.rx_sync.specs.Laws.{ComeSoundly}
use Rattle.rx_sync.specs.Shown.{record_in}
use Rattle.rx_sync.specs.declared.fault.EventFault.TheVariants.{Memory}
use Rattle.rx_sync.proofs.Calls.{due_ok, none_pending}
use Rattle.rx_sync.proofs.EventTakings.{event_apart, event_is, event_leaves}
use Rattle.rx_sync.proofs.Pulls.{pending_is}
use Rattle.rx_sync.proofs.events.take_event.Goals as goal

pub take_at-requires-clause-below : goal.take_at-requires-clause-below
take_at-requires-clause-below g c =
    let r = c.find_replication-replication in
    none_pending (world_in g.H.Holder.held c.args.world.now) r.ensures.made c.args.name.now
    r.result.now r.ensures.found c.find_fork-fork.result.now c.find_fork-fork.ensures.found
    c.requires.sound

pub take_at-requires-clause-none : goal.take_at-requires-clause-none
take_at-requires-clause-none g c = λ is.
    let r = c.find_replication-replication in
    some_same
    (sym (pending_is (world_in g.H.Holder.held c.args.world.now) c.args.name.now r.result.now
    c.find_fork-fork.result.now r.ensures.found c.find_fork-fork.ensures.found)
    ∙ c.requires.none is)

pub take_at-requires-clause-apart : goal.take_at-requires-clause-apart
take_at-requires-clause-apart g c =
    let r = c.find_replication-replication in
    event_apart (world_in g.H.Holder.held c.args.world.now) r.ensures.made c.args.name.now
    c.requires.master c.args.event.now c.requires.good r.result.now r.ensures.found
    c.find_fork-fork.result.now c.find_fork-fork.ensures.found

pub returns-clause-taken : goal.returns-clause-taken
returns-clause-taken g c =
    let r = c.find_replication-replication in
    let due = DueBy Memory record_in c.take_at.result in
    subst (λ o. IsSomeAnd o due)
    (sym (event_is (world_in g.H.Holder.held c.args.world.now) c.args.name.now c.args.event.now
    c.args.now r.result.now c.find_fork-fork.result.now r.ensures.found
    c.find_fork-fork.ensures.found)) c.take_at.ensures

pub returns-clause-next : goal.returns-clause-next
returns-clause-next g c =
    let w = world_in g.H.Holder.held c.args.world.now in
    let name = c.args.name.now in
    let r = c.find_replication-replication in
    let fork = c.find_fork-fork in
    let due = event_by name c.args.now c.args.event.now r.result.now fork.result.now in
    if_ok c.take_at.result (λ entry. due ≡ Ok (record_in entry))
    (λ entry. ComeSoundly w (record_in entry))
    (due_ok Memory record_in c.take_at.result due c.take_at.ensures)
    (λ entry is. (event_leaves w r.ensures.made name c.requires.master c.args.event.now
    c.requires.good r.result.now r.ensures.found fork.result.now fork.ensures.found
    c.requires.sound c.args.now (record_in entry) is).come)

pub returns-clause-untouched : goal.returns-clause-untouched
returns-clause-untouched g c =
    let w = world_in g.H.Holder.held c.args.world.now in
    let name = c.args.name.now in
    let r = c.find_replication-replication in
    let fork = c.find_fork-fork in
    let due = event_by name c.args.now c.args.event.now r.result.now fork.result.now in
    if_ok c.take_at.result (λ entry. due ≡ Ok (record_in entry))
    (λ entry. pending_in w name ≡ Some 0)
    (due_ok Memory record_in c.take_at.result due c.take_at.ensures)
    (λ entry is. (event_leaves w r.ensures.made name c.requires.master c.args.event.now
    c.requires.good r.result.now r.ensures.found fork.result.now fork.ensures.found
    c.requires.sound c.args.now (record_in entry) is).before)

pub returns-clause-settled : goal.returns-clause-settled
returns-clause-settled g c =
    let w = world_in g.H.Holder.held c.args.world.now in
    let name = c.args.name.now in
    let r = c.find_replication-replication in
    let fork = c.find_fork-fork in
    let due = event_by name c.args.now c.args.event.now r.result.now fork.result.now in
    if_ok c.take_at.result (λ entry. due ≡ Ok (record_in entry))
    (λ entry. pending_in (world_after (record_in entry) w) name ≡ Some 0)
    (due_ok Memory record_in c.take_at.result due c.take_at.ensures)
    (λ entry is. (event_leaves w r.ensures.made name c.requires.master c.args.event.now
    c.requires.good r.result.now r.ensures.found fork.result.now fork.ensures.found
    c.requires.sound c.args.now (record_in entry) is).settled)
