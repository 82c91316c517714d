use Rattle.std.proofs.Common.{◌≡◌, ◌∙◌, ◌++◌, append-nil, Option, Err, ap, sym, rules}
use Rattle.rx_handler.specs.Shown.{kinds_of}
use Rattle.rx_outside.specs.declared.stop.Stop.TheVariants.{Memory}
use Rattle.rx_reply.specs.declared.turn.Exchanged.{Exchanged}
use Rattle.rx_reply.specs.declared.turn.TurnEnd.TheVariants.{Clock, More}
use Rattle.rx_sync.specs.Exchange.{asked_to_pull}
use Rattle.rx_sync.specs.Turn.{as_list, end_by}
use Rattle.rx_engine.specs.Callings.{wire_stands}
use Rattle.rx_engine.specs.Turning.{terms}
use Rattle.rx_engine.proofs.CallingOnce.{then_none_heard}
use Rattle.rx_engine.proofs.Callings.{begun_calling, call_made, call_out_of_memory, call_stopped, exchanged_call, none_kept, used_call}
use Rattle.rx_engine.proofs.remote.call_turn.Goals as goal

pub loop-i-init : goal.loop-i-init
loop-i-init g c =
    let t = terms c.args.wanted.now.name c.args.now (kinds_of c.args.handlers.now) in
    let kept = none_kept t c.args.wanted.now.batch g.D.Disk c.args.disk.now c.args.first
    c.args.asks.now c.args.wanted.now.budget g.W.Wire.tells
    (wire_stands g.W.Wire c.args.wire.now)
    (λ told left e. g.met.D.Disk.only_now c.args.disk.now left told e) in
    record {
      on = begun_calling t c.args.wanted.now.batch g.D.Disk c.args.disk.now c.args.first
          c.args.asks.now c.args.wanted.now.budget g.W.Wire.tells
          (wire_stands g.W.Wire c.args.wire.now) c.args.disk.now kept c.requires.may
          c.requires.none_given c.requires.none_sent c.new-exchanges.result c.new-exchanges.ensures;
      none = c.requires.none;
      later = search rules;
      count = search rules;
    }

pub returns-in_err-next-clause-turned : goal.returns-in_err-next-clause-turned
returns-in_err-next-clause-turned g c =
    let t = terms c.args.wanted.now.name c.args.now (kinds_of c.args.handlers.now) in
    call_stopped t c.args.wanted.now.batch g.D.Disk c.args.disk.now c.args.first c.args.asks.now
    c.args.wanted.now.budget g.W.Wire.tells (wire_stands g.W.Wire c.args.wire.now)
    c.requires.batch c.loop-i.disk c.loop-i.i c.loop-i.play c.loop-i.asks c.loop-i.exchanges
    (wire_stands g.W.Wire c.loop-i.wire) c.loop-i.invariant.on c.call_exchange.new.disk
    c.call_exchange.new.asks (wire_stands g.W.Wire c.call_exchange.new.wire)
    c.in_err-next.field-0.0 c.in_err-next.ensures.made c.from_residual.result (search rules)
    c.loop-i-test.true

pub returns-in-Some-end-clause-none : goal.returns-in-Some-end-clause-none
returns-in-Some-end-clause-none g c is =
    then_none_heard c.in_ok-next.ensures.made c.requires.batch c.loop-i.invariant.on.may
    (ap asked_to_pull c.in-Some.is ∙ sym c.asked_to_pull-pulled.ensures ∙ is)

pub returns-clause-none : goal.returns-clause-none
returns-clause-none g c = c.loop-i.invariant.none

pub returns-in_default-clause-turned : goal.returns-in_default-clause-turned
returns-in_default-clause-turned g c =
    let t = terms c.args.wanted.now.name c.args.now (kinds_of c.args.handlers.now) in
    let w0 = wire_stands g.W.Wire c.args.wire.now in
    let w2 = wire_stands g.W.Wire c.call_exchange.new.wire in
    let past = exchanged_call t c.args.wanted.now.batch g.D.Disk c.args.disk.now c.args.first
    c.args.asks.now c.args.wanted.now.budget g.W.Wire.tells w0 c.requires.batch c.loop-i.disk
    c.loop-i.i c.loop-i.play c.loop-i.asks c.loop-i.exchanges (wire_stands g.W.Wire c.loop-i.wire)
    c.loop-i.invariant.on c.call_exchange.new.disk c.in_ok-next.next c.call_exchange.new.asks
    c.in_ok-next.came w2 c.in_ok-next.ensures.made c.in_ok-next.ensures.wire_count
    c.loop-i-test.true in
    let ends = past.ends Clock (ap (end_by c.args.wanted.now.batch) c.in_default.is)
    c.loop-i.exchanges
    (sym (append-nil c.loop-i.exchanges)
    ∙ ap (λ (o : Option Exchanged). c.loop-i.exchanges ++ as_list o) (sym c.in_default.is)) in
    call_made t c.args.wanted.now.batch g.D.Disk c.args.disk.now c.args.first c.args.asks.now
    c.args.wanted.now.budget g.W.Wire.tells w0 c.call_exchange.new.disk c.in_ok-next.next
    c.call_exchange.new.asks c.loop-i.exchanges Clock w2 ends

pub returns-in_err-push-clause-turned : goal.returns-in_err-push-clause-turned
returns-in_err-push-clause-turned g c =
    let t = terms c.args.wanted.now.name c.args.now (kinds_of c.args.handlers.now) in
    let w0 = wire_stands g.W.Wire c.args.wire.now in
    let w1 = wire_stands g.W.Wire c.loop-i.wire in
    let w2 = wire_stands g.W.Wire c.call_exchange.new.wire in
    let stop : c.from_residual-in_err-push.result ≡ Err Memory =
    search (rules, c.from_residual-in_err-push.ensures) in
    let past = exchanged_call t c.args.wanted.now.batch g.D.Disk c.args.disk.now c.args.first
    c.args.asks.now c.args.wanted.now.budget g.W.Wire.tells w0 c.requires.batch c.loop-i.disk
    c.loop-i.i c.loop-i.play c.loop-i.asks c.loop-i.exchanges w1 c.loop-i.invariant.on
    c.call_exchange.new.disk c.in_ok-next.next c.call_exchange.new.asks c.in_ok-next.came w2
    c.in_ok-next.ensures.made c.in_ok-next.ensures.wire_count c.loop-i-test.true in
    call_out_of_memory t c.args.wanted.now.batch g.D.Disk c.args.disk.now c.args.first
    c.args.asks.now c.args.wanted.now.budget g.W.Wire.tells w0 c.call_exchange.new.disk c.loop-i.i
    c.in_ok-next.next c.call_exchange.new.asks c.call_exchange.new.asks c.loop-i.exchanges
    c.in_ok-next.came w2 w2 c.from_residual-in_err-push.result past stop

pub returns-in-Some-end-clause-turned : goal.returns-in-Some-end-clause-turned
returns-in-Some-end-clause-turned g c =
    let t = terms c.args.wanted.now.name c.args.now (kinds_of c.args.handlers.now) in
    let w0 = wire_stands g.W.Wire c.args.wire.now in
    let w2 = wire_stands g.W.Wire c.call_exchange.new.wire in
    let past = exchanged_call t c.args.wanted.now.batch g.D.Disk c.args.disk.now c.args.first
    c.args.asks.now c.args.wanted.now.budget g.W.Wire.tells w0 c.requires.batch c.loop-i.disk
    c.loop-i.i c.loop-i.play c.loop-i.asks c.loop-i.exchanges (wire_stands g.W.Wire c.loop-i.wire)
    c.loop-i.invariant.on c.call_exchange.new.disk c.in_ok-next.next c.call_exchange.new.asks
    c.in_ok-next.came w2 c.in_ok-next.ensures.made c.in_ok-next.ensures.wire_count
    c.loop-i-test.true in
    let ends = past.ends c.in-Some-end.ended
    (ap (end_by c.args.wanted.now.batch) c.in-Some.is ∙ sym c.in-Some-end.ensures)
    c.push.new.self (c.in_ok-push.ensures.ok
    ∙ ap (λ (o : Option Exchanged). c.loop-i.exchanges ++ as_list o) (sym c.in-Some.is)) in
    call_made t c.args.wanted.now.batch g.D.Disk c.args.disk.now c.args.first c.args.asks.now
    c.args.wanted.now.budget g.W.Wire.tells w0 c.call_exchange.new.disk c.in_ok-next.next
    c.call_exchange.new.asks c.push.new.self c.in-Some-end.ended w2 ends

pub loop-i-preserved : goal.loop-i-preserved
loop-i-preserved g c =
    let t = terms c.args.wanted.now.name c.args.now (kinds_of c.args.handlers.now) in
    let w0 = wire_stands g.W.Wire c.args.wire.now in
    let w2 = wire_stands g.W.Wire c.call_exchange.new.wire in
    let past = exchanged_call t c.args.wanted.now.batch g.D.Disk c.args.disk.now c.args.first
    c.args.asks.now c.args.wanted.now.budget g.W.Wire.tells w0 c.requires.batch c.loop-i.disk
    c.loop-i.i c.loop-i.play c.loop-i.asks c.loop-i.exchanges (wire_stands g.W.Wire c.loop-i.wire)
    c.loop-i.invariant.on c.call_exchange.new.disk c.in_ok-next.next c.call_exchange.new.asks
    c.in_ok-next.came w2 c.in_ok-next.ensures.made c.in_ok-next.ensures.wire_count
    c.loop-i-test.true in
    let none = ap (end_by c.args.wanted.now.batch) c.in-Some.is ∙ sym c.end_by-end.ensures
    ∙ c.in_default-end.is in
    record {
      on = past.goes_on c.in-Some.exchanged c.in-Some.is none c.push.new.self
          c.in_ok-push.ensures.ok;
      none = λ is. then_none_heard c.in_ok-next.ensures.made c.requires.batch
          c.loop-i.invariant.on.may
          (ap asked_to_pull c.in-Some.is ∙ sym c.asked_to_pull-pulled.ensures ∙ is);
      later = search rules;
      count = search rules;
    }

pub returns-clause-turned : goal.returns-clause-turned
returns-clause-turned g c =
    let t = terms c.args.wanted.now.name c.args.now (kinds_of c.args.handlers.now) in
    let w0 = wire_stands g.W.Wire c.args.wire.now in
    let w1 = wire_stands g.W.Wire c.loop-i.wire in
    call_made t c.args.wanted.now.batch g.D.Disk c.args.disk.now c.args.first c.args.asks.now
    c.args.wanted.now.budget g.W.Wire.tells w0 c.loop-i.disk c.loop-i.play c.loop-i.asks
    c.loop-i.exchanges More w1
    (used_call t c.args.wanted.now.batch g.D.Disk c.args.disk.now c.args.first c.args.asks.now
    c.args.wanted.now.budget g.W.Wire.tells w0 c.requires.batch c.loop-i.disk c.loop-i.i
    c.loop-i.play c.loop-i.asks c.loop-i.exchanges w1 c.loop-i.invariant.on c.loop-i-test.false)
