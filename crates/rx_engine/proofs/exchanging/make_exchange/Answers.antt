use Rattle.std.proofs.Common.{◌≡◌, ◌∙◌, ℕ, List, Option, Some, IfOk, ap, sym, subst, rules}
use Rattle.rx_handler.specs.Shown.{kinds_of}
use Rattle.rx_record.specs.Content.{Content}
use Rattle.rx_reply.specs.declared.turn.Exchanged.{Exchanged}
use Rattle.rx_sync.specs.Asking.{asked_in}
use Rattle.rx_sync.specs.Asks.{Asks, next_number}
use Rattle.rx_sync.specs.Exchange.{Course}
use Rattle.rx_sync.specs.Laws.{IsLawfulIn, RemembersLawful}
use Rattle.rx_sync.proofs.Ends.{ends_of}
use Rattle.rx_sync.proofs.Turns.{remembers_more}
use Rattle.rx_engine.specs.Carried.{carried}
use Rattle.rx_engine.specs.Play.{Follows}
use Rattle.rx_engine.specs.Turning.{terms}
use Rattle.rx_engine.specs.declared.play.Play.{Play}
use Rattle.rx_engine.proofs.Carrying.{course_is}
use Rattle.rx_engine.proofs.exchanging.make_exchange.Goals as goal

pub carry_request-requires-clause-asks : goal.carry_request-requires-clause-asks
carry_request-requires-clause-asks g c =
    let name = c.args.wanted.now.name in
    let w = c.args.play.playing.world in
    let ready = c.requires.may.ready in
    let e = ends_of w name (kinds_of c.args.handlers.now) ready in
    let called : c.as_str-name.result.now ≡ name = search rules in
    let lawful : IsLawfulIn w name c.in_ok-asked.asked.request =
    subst (λ (n : List ℕ). IsLawfulIn w n c.in_ok-asked.asked.request) called
    c.in_ok-asked.ensures.lawful in
    subst (λ (n : List ℕ). RemembersLawful w n c.ask_next.new.asks) (sym called)
    (subst (λ (a : Asks). RemembersLawful w name a) (sym c.in_ok-asked.ensures.asks)
    (remembers_more w name ready.here.replication e.fork c.in_ok-asked.asked.request c.args.asks.now
    ready.here.held e.held (lawful ready.here.replication ready.here.held e.fork e.held)
    c.requires.may.asks))

pub returns-clause-staged : goal.returns-clause-staged
returns-clause-staged g c =
    let called : c.as_str-name.result.now ≡ c.args.wanted.now.name = search rules in
    let t = terms c.args.wanted.now.name c.args.now (kinds_of c.args.handlers.now) in
    let w = c.args.play.playing.world in
    let asked = c.in_ok-asked.asked in
    let same = ap (λ (c : Course). c.records)
    (course_is t c.args.wanted.now.batch c.args.happening w c.args.asks.now asked
    (subst (λ (n : List ℕ). asked_in w n (next_number c.args.asks.now) c.args.wanted.now.batch
    ≡ Some asked) called c.in_ok-asked.ensures.asked)) in
    let there = ap (λ (a : Asks). (carried t asked c.args.happening a w).records)
    (sym c.in_ok-asked.ensures.asks) in
    let renamed = ap (λ (n : List ℕ). (carried (terms n c.args.now (kinds_of c.args.handlers.now))
    asked c.args.happening c.ask_next.new.asks w).records) (sym called) in
    subst (λ (cs : List Content). IfOk c.carry_request.result
    (λ (p : Play × Option Exchanged). Follows c.args.play cs p.0)) (sym (same ∙ there ∙ renamed))
    c.carry_request.ensures.staged
