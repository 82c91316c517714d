use Rattle.std.proofs.Common.{◌≡◌, ◌∙◌, List, Option, Some, None, IfOk, ap, sym, subst, rules}
use Rattle.rx_handler.specs.Shown.{kinds_of}
use Rattle.rx_value.proofs.Outcomes.{if_ok}
use Rattle.rx_record.specs.Content.{Content}
use Rattle.rx_reply.specs.declared.turn.Exchanged.{Exchanged}
use Rattle.rx_sync.specs.Exchange.{exchange, late_records, late_request, once_late, world_after}
use Rattle.rx_sync.specs.Laws.{ComeSoundly, IsAskedIn, IsReady}
use Rattle.rx_sync.specs.Shown.{record_in}
use Rattle.rx_world.specs.Sound.{IsSoundWorld}
use Rattle.rx_world.specs.World.{World}
use Rattle.rx_engine.specs.Play.{Follows}
use Rattle.rx_engine.specs.Turning.{terms}
use Rattle.rx_engine.specs.declared.play.Play.{Play}
use Rattle.rx_engine.proofs.Carrying.{came_is, records_are, still_asked, still_ready}
use Rattle.rx_engine.proofs.Staging.{follows_none, follows_on, world_of}
use Rattle.rx_engine.proofs.exchanging.carry_request.Goals as goal

pub returns-in-Err-ClockEnd-clause-staged : goal.returns-in-Err-ClockEnd-clause-staged
returns-in-Err-ClockEnd-clause-staged g c =
    let t = terms c.args.name.now c.args.now (kinds_of c.args.handlers.now) in
    let w = c.args.play.playing.world in
    let none : late_records t.name t.now w (late_request c.args.happening c.args.asks.now) ≡ None =
    search rules in
    subst (λ (cs : List Content). Follows c.args.play cs c.args.play)
    (sym (ap (λ o. (once_late t c.args.asked.now c.args.happening w o).records) none))
    (follows_none c.args.play)

pub stage_exchange-requires-clause-ready : goal.stage_exchange-requires-clause-ready
stage_exchange-requires-clause-ready g c =
    let t = terms c.args.name.now c.args.now (kinds_of c.args.handlers.now) in
    let w = c.args.play.playing.world in
    let cs = record_in c.in-Ok.earlier in
    let late : late_records t.name t.now w (late_request c.args.happening c.args.asks.now) ≡ Some cs
    =
    subst (λ (v : World). late_records t.name t.now v (late_request c.args.happening
    c.args.asks.now)
    ≡ Some cs) c.world.ensures c.in-Ok.ensures.written in
    let come : ComeSoundly w cs =
    subst (λ (v : World). ComeSoundly v cs) c.world.ensures
    (c.in-Ok.ensures.next (subst IsSoundWorld (sym c.world.ensures) c.requires.ready.sound)) in
    let there = world_of c.args.play c.in_ok-play.play cs c.in_ok-play.ensures in
    subst (λ (v : World). IsReady v t.name t.kinds) (sym there)
    (still_ready t w c.requires.ready c.args.asked.now c.requires.asked c.args.happening
    c.args.asks.now c.requires.asks cs late come)

pub stage_exchange-requires-clause-asked : goal.stage_exchange-requires-clause-asked
stage_exchange-requires-clause-asked g c =
    let t = terms c.args.name.now c.args.now (kinds_of c.args.handlers.now) in
    let w = c.args.play.playing.world in
    let cs = record_in c.in-Ok.earlier in
    let late : late_records t.name t.now w (late_request c.args.happening c.args.asks.now) ≡ Some cs
    =
    subst (λ (v : World). late_records t.name t.now v (late_request c.args.happening
    c.args.asks.now)
    ≡ Some cs) c.world.ensures c.in-Ok.ensures.written in
    let there = world_of c.args.play c.in_ok-play.play cs c.in_ok-play.ensures in
    subst (λ (v : World). IsAskedIn v t.name c.args.asked.now) (sym there)
    (still_asked t w c.requires.ready c.args.asked.now c.requires.asked c.args.happening
    c.args.asks.now c.requires.asks cs late)

pub returns-clause-came : goal.returns-clause-came
returns-clause-came g c =
    let t = terms c.args.name.now c.args.now (kinds_of c.args.handlers.now) in
    let w = c.args.play.playing.world in
    let cs = record_in c.in-Ok.earlier in
    let late : late_records t.name t.now w (late_request c.args.happening c.args.asks.now) ≡ Some cs
    =
    subst (λ (v : World). late_records t.name t.now v (late_request c.args.happening
    c.args.asks.now)
    ≡ Some cs) c.world.ensures c.in-Ok.ensures.written in
    let there = world_of c.args.play c.in_ok-play.play cs c.in_ok-play.ensures in
    subst (λ (came : Option Exchanged). IfOk c.stage_exchange.result (λ p. p.1 ≡ came))
    (ap (λ (v : World). (exchange t c.args.asked.now c.args.happening v).came) there
    ∙ sym (came_is t w c.requires.ready c.args.asked.now c.requires.asked c.args.happening
    c.args.asks.now c.requires.asks cs late))
    c.stage_exchange.ensures.came

pub returns-clause-staged : goal.returns-clause-staged
returns-clause-staged g c =
    let t = terms c.args.name.now c.args.now (kinds_of c.args.handlers.now) in
    let w = c.args.play.playing.world in
    let x = c.args.happening in
    let a = c.args.asks.now in
    let asked = c.args.asked.now in
    let cs = record_in c.in-Ok.earlier in
    let late : late_records t.name t.now w (late_request x a) ≡ Some cs =
    subst (λ (v : World). late_records t.name t.now v (late_request x a) ≡ Some cs) c.world.ensures
    c.in-Ok.ensures.written in
    let ps = (exchange t asked x (world_after cs w)).records in
    let there = world_of c.args.play c.in_ok-play.play cs c.in_ok-play.ensures in
    let is = records_are t w c.requires.ready asked c.requires.asked x a c.requires.asks cs late in
    if_ok c.stage_exchange.result _ _ c.stage_exchange.ensures.staged
    (λ (p : Play × Option Exchanged) next.
    subst (λ (all : List Content). Follows c.args.play all p.0) (sym is)
    (follows_on c.args.play c.in_ok-play.play p.0 cs ps c.in_ok-play.ensures
    (subst (λ (v : World). Follows c.in_ok-play.play (exchange t asked x v).records p.0) there
    next)))
