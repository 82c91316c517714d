use Rattle.std.proofs.Common.{◌≡◌, Some, rules}
use Rattle.rx_value.specs.Named.{named}
use Rattle.rx_value.proofs.Outcomes.{if_ok}
use Rattle.rx_world.specs.Holders.{world_in}
use Rattle.rx_sync.specs.Handling.{handled_by}
use Rattle.rx_sync.specs.Laws.{ComeSoundly}
use Rattle.rx_sync.specs.Shown.{handled_of, record_in}
use Rattle.rx_sync.proofs.Calls.{handled_soundly}
use Rattle.rx_sync.proofs.handling.handle.Goals as goal

pub returns-clause-next : goal.returns-clause-next
returns-clause-next g c = λ made sound.
    let w = world_in g.H.Holder.held c.args.world.now in
    let held = c.collection.result.now in
    let at : named w.collections c.args.name.now ≡ Some held = search rules in
    if_ok c.handle_by.result
    (λ h. handled_by held.name c.args.now c.args.request.now held ≡ Some (handled_of h))
    (λ h. ComeSoundly w (record_in h.written)) c.handle_by.ensures.handled
    (λ h. handled_soundly w made sound c.args.name.now held at c.args.request.now
    (c.requires.lawful held at) c.args.now (handled_of h))

pub returns-clause-may : goal.returns-clause-may
returns-clause-may g c =
    let w = world_in g.H.Holder.held c.args.world.now in
    let held = c.collection.result.now in
    let at : named w.collections held.name ≡ Some held = search rules in
    c.handle_by.ensures.next w at
