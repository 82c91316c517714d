use Rattle.std.proofs.Common.{◌≡◌, ◌∙◌, Some, ap, sym, map, option_map}
use Rattle.rx_value.proofs.Outcomes.{if_ok}
use Rattle.rx_handler.specs.Shown.{kinds_of}
use Rattle.rx_record.specs.Shown.{content}
use Rattle.rx_world.specs.Holders.{world_in}
use Rattle.rx_sync.specs.Exchange.{behind, handled_and_taken, when_taken}
use Rattle.rx_sync.specs.Handling.{handled_for}
use Rattle.rx_sync.specs.Shown.{handled_of, planned_of}
use Rattle.rx_sync.proofs.Calls.{asked_due, asked_lawful, handled_reply, handled_then_taken}
use Rattle.rx_sync.proofs.exchanging.reply_taken.Goals as goal

pub handled_for-requires-clause-lawful : goal.handled_for-requires-clause-lawful
handled_for-requires-clause-lawful g c =
    asked_lawful (world_in g.H.Holder.held c.args.world.now) c.args.name.now
    (kinds_of c.args.handlers.now) c.requires.ready c.args.asked.now c.requires.asked c.args.now

pub taken-requires-clause-asked : goal.taken-requires-clause-asked
taken-requires-clause-asked g c =
    asked_due (world_in g.H.Holder.held c.args.world.now) c.args.name.now
    (kinds_of c.args.handlers.now) c.requires.ready c.args.asked.now c.requires.asked c.args.now

pub taken-requires-clause-reply : goal.taken-requires-clause-reply
taken-requires-clause-reply g c =
    let w = world_in g.H.Holder.held c.args.world.now in
    let h = handled_of c.in-Some.field-0 in
    let is : handled_for w c.args.name.now c.args.asked.now.request c.args.now ≡ Some h =
    sym c.in_ok-written.ensures ∙ ap (option_map handled_of) c.in-Some.is in
    handled_reply w c.args.name.now (kinds_of c.args.handlers.now) c.requires.ready c.args.asked.now
    c.requires.asked c.args.now h is

pub returns : goal.returns
returns g c =
    let w = world_in g.H.Holder.held c.args.world.now in
    let name = c.args.name.now in
    let kinds = kinds_of c.args.handlers.now in
    let asked = c.args.asked.now in
    let h = handled_of c.in-Some.field-0 in
    let is : handled_for w name asked.request c.args.now ≡ Some h =
    sym c.in_ok-written.ensures ∙ ap (option_map handled_of) c.in-Some.is in
    let due = option_map (λ rs. map content rs.items) c.in_ok-taken.taken in
    record {
      exact =
          if_ok c.when_taken.result
          (λ p. planned_of p ≡ behind h.records (when_taken asked.request.ask h.reply.body due))
          (λ p. handled_and_taken (record { name = name; now = c.args.now; kinds = kinds }) asked w
          ≡ planned_of p) c.when_taken.ensures
          (λ p e.
          handled_then_taken w name kinds c.requires.ready asked c.requires.asked c.args.now h is
          ∙ ap (λ o. behind h.records (when_taken asked.request.ask h.reply.body o))
          (sym c.in_ok-taken.ensures)
          ∙ sym e);
    }
