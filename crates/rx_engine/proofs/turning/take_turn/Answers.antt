use Rattle.std.proofs.Common.{◌∙◌, ◌++◌, List, [], append-nil, Option, ap, sym, arith}
use Rattle.rx_handler.specs.Shown.{kinds_of}
use Rattle.rx_reply.specs.declared.turn.Exchanged.{Exchanged}
use Rattle.rx_reply.specs.declared.turn.TurnEnd.TheVariants.{Clock}
use Rattle.rx_sync.specs.Exchange.{has_pulled}
use Rattle.rx_sync.specs.Turn.{as_list, end_by, over_link, turn_by}
use Rattle.rx_engine.specs.Turning.{happening_at, terms}
use Rattle.rx_engine.proofs.OneTurn.{joined}
use Rattle.rx_engine.proofs.Staging.{follows_none}
use Rattle.rx_engine.proofs.Turnings.{HasMade, exchanged, made_so, staged_so, then_none, used}
use Rattle.rx_engine.proofs.turning.take_turn.Goals as goal

pub loop-i-init : goal.loop-i-init
loop-i-init g c =
    let t = terms c.args.wanted.now.name c.args.now (kinds_of c.args.handlers.now) in
    let total = turn_by (over_link t) c.args.wanted.now.batch c.args.wanted.now.budget
    c.args.wanted.now.link.items c.args.first.playing.world c.args.asks.now in
    record {
      on = record {
        left = c.args.wanted.now.budget;
        span = omega arith;
        may = c.requires.may;
        done = [];
        requests = [];
        follows = follows_none c.args.first;
        whole = ap (λ (es : List Exchanged). joined [] [] es total) (sym c.new-exchanges.ensures);
      };
      none = c.requires.none;
    }

pub returns-in-Some-end-clause-none : goal.returns-in-Some-end-clause-none
returns-in-Some-end-clause-none g c is =
    let given = c.happening_at-happening.ensures ∙ ap (happening_at c.loop-i.i)
    c.as_slice.ensures.value in
    let t = terms c.args.wanted.now.name c.args.now (kinds_of c.args.handlers.now) in
    let made : HasMade t c.args.wanted.now.batch c.loop-i.play c.in_ok-next.next c.loop-i.asks
    c.make_exchange.new.asks c.happening_at-happening.result c.in_ok-next.came = record {
      came = c.in_ok-next.ensures.came;
      asks = c.in_ok-next.ensures.asks;
      follows = c.in_ok-next.ensures.staged;
    } in
    then_none c.loop-i.invariant.on made c.requires.batch
    (ap has_pulled c.in-Some.is ∙ sym c.has_pulled-pulled.ensures ∙ is)

pub returns-clause-none : goal.returns-clause-none
returns-clause-none g c = c.loop-i.invariant.none

pub returns-in_default-clause-turned : goal.returns-in_default-clause-turned
returns-in_default-clause-turned g c =
    let t = terms c.args.wanted.now.name c.args.now (kinds_of c.args.handlers.now) in
    let is = c.happening_at-happening.ensures ∙ ap (happening_at c.loop-i.i)
    c.as_slice.ensures.value in
    let made : HasMade t c.args.wanted.now.batch c.loop-i.play c.in_ok-next.next c.loop-i.asks
    c.make_exchange.new.asks c.happening_at-happening.result c.in_ok-next.came = record {
      came = c.in_ok-next.ensures.came;
      asks = c.in_ok-next.ensures.asks;
      follows = c.in_ok-next.ensures.staged;
    } in
    let past = exchanged c.loop-i.invariant.on made c.requires.batch is c.loop-i-test.true in
    let ends = past.ends Clock (ap (end_by c.args.wanted.now.batch) c.in_default.is)
    c.loop-i.exchanges
    (sym (append-nil c.loop-i.exchanges)
    ∙ ap (λ (o : Option Exchanged). c.loop-i.exchanges ++ as_list o) (sym c.in_default.is)) in
    made_so ends

pub returns-in_default-clause-staged : goal.returns-in_default-clause-staged
returns-in_default-clause-staged g c =
    let t = terms c.args.wanted.now.name c.args.now (kinds_of c.args.handlers.now) in
    let is = c.happening_at-happening.ensures ∙ ap (happening_at c.loop-i.i)
    c.as_slice.ensures.value in
    let made : HasMade t c.args.wanted.now.batch c.loop-i.play c.in_ok-next.next c.loop-i.asks
    c.make_exchange.new.asks c.happening_at-happening.result c.in_ok-next.came = record {
      came = c.in_ok-next.ensures.came;
      asks = c.in_ok-next.ensures.asks;
      follows = c.in_ok-next.ensures.staged;
    } in
    let past = exchanged c.loop-i.invariant.on made c.requires.batch is c.loop-i-test.true in
    let ends = past.ends Clock (ap (end_by c.args.wanted.now.batch) c.in_default.is)
    c.loop-i.exchanges
    (sym (append-nil c.loop-i.exchanges)
    ∙ ap (λ (o : Option Exchanged). c.loop-i.exchanges ++ as_list o) (sym c.in_default.is)) in
    staged_so ends

pub returns-in-Some-end-clause-turned : goal.returns-in-Some-end-clause-turned
returns-in-Some-end-clause-turned g c =
    let t = terms c.args.wanted.now.name c.args.now (kinds_of c.args.handlers.now) in
    let is = c.happening_at-happening.ensures ∙ ap (happening_at c.loop-i.i)
    c.as_slice.ensures.value in
    let made : HasMade t c.args.wanted.now.batch c.loop-i.play c.in_ok-next.next c.loop-i.asks
    c.make_exchange.new.asks c.happening_at-happening.result c.in_ok-next.came = record {
      came = c.in_ok-next.ensures.came;
      asks = c.in_ok-next.ensures.asks;
      follows = c.in_ok-next.ensures.staged;
    } in
    let past = exchanged c.loop-i.invariant.on made c.requires.batch is c.loop-i-test.true in
    let ends = past.ends c.in-Some-end.ended
    (ap (end_by c.args.wanted.now.batch) c.in-Some.is ∙ sym c.in-Some-end.ensures)
    c.push.new.self (c.in_ok-push.ensures.ok
    ∙ ap (λ (o : Option Exchanged). c.loop-i.exchanges ++ as_list o) (sym c.in-Some.is)) in
    made_so ends

pub returns-in-Some-end-clause-staged : goal.returns-in-Some-end-clause-staged
returns-in-Some-end-clause-staged g c =
    let t = terms c.args.wanted.now.name c.args.now (kinds_of c.args.handlers.now) in
    let is = c.happening_at-happening.ensures ∙ ap (happening_at c.loop-i.i)
    c.as_slice.ensures.value in
    let made : HasMade t c.args.wanted.now.batch c.loop-i.play c.in_ok-next.next c.loop-i.asks
    c.make_exchange.new.asks c.happening_at-happening.result c.in_ok-next.came = record {
      came = c.in_ok-next.ensures.came;
      asks = c.in_ok-next.ensures.asks;
      follows = c.in_ok-next.ensures.staged;
    } in
    let past = exchanged c.loop-i.invariant.on made c.requires.batch is c.loop-i-test.true in
    let ends = past.ends c.in-Some-end.ended
    (ap (end_by c.args.wanted.now.batch) c.in-Some.is ∙ sym c.in-Some-end.ensures)
    c.push.new.self (c.in_ok-push.ensures.ok
    ∙ ap (λ (o : Option Exchanged). c.loop-i.exchanges ++ as_list o) (sym c.in-Some.is)) in
    staged_so ends

pub loop-i-preserved : goal.loop-i-preserved
loop-i-preserved g c =
    let t = terms c.args.wanted.now.name c.args.now (kinds_of c.args.handlers.now) in
    let is = c.happening_at-happening.ensures ∙ ap (happening_at c.loop-i.i)
    c.as_slice.ensures.value in
    let made : HasMade t c.args.wanted.now.batch c.loop-i.play c.in_ok-next.next c.loop-i.asks
    c.make_exchange.new.asks c.happening_at-happening.result c.in_ok-next.came = record {
      came = c.in_ok-next.ensures.came;
      asks = c.in_ok-next.ensures.asks;
      follows = c.in_ok-next.ensures.staged;
    } in
    let past = exchanged c.loop-i.invariant.on made c.requires.batch is c.loop-i-test.true in
    let none = ap (end_by c.args.wanted.now.batch) c.in-Some.is ∙ sym c.end_by-end.ensures
    ∙ c.in_default-end.is in
    record {
      on = past.goes_on c.in-Some.exchanged c.in-Some.is none c.push.new.self
          c.in_ok-push.ensures.ok;
      none = λ is. then_none c.loop-i.invariant.on made c.requires.batch
          (ap has_pulled c.in-Some.is ∙ sym c.has_pulled-pulled.ensures ∙ is);
    }

pub returns-clause-turned : goal.returns-clause-turned
returns-clause-turned g c = made_so (used c.loop-i.invariant.on c.loop-i-test.false)

pub returns-clause-staged : goal.returns-clause-staged
returns-clause-staged g c =
    staged_so (used c.loop-i.invariant.on c.loop-i-test.false)
