use Rattle.std.proofs.Common.{◌≡◌, ◌∙◌, ℕ, List, Some, IfOk, ap, subst, refl, rules}
use Rattle.rx_handler.specs.Shown.{kinds_of}
use Rattle.rx_store.specs.Safe.{IsCrashSafe}
use Rattle.rx_sync.specs.Asking.{asked_in}
use Rattle.rx_sync.specs.Asks.{next_number}
use Rattle.rx_sync.specs.Remote.{heard_exchange, schema_in}
use Rattle.rx_sync.specs.Shown.{heard_of}
use Rattle.rx_engine.specs.Callings.{wire_stands}
use Rattle.rx_engine.specs.Meaning.{bodies_of}
use Rattle.rx_engine.specs.Play.{IsPlayAt}
use Rattle.rx_engine.specs.Turning.{terms, written}
use Rattle.rx_engine.proofs.CallingOnce.{made_so, none_made}
use Rattle.rx_engine.proofs.calling.call_exchange.Goals as goal

pub returns-in_err-asked-clause-made : goal.returns-in_err-asked-clause-made
returns-in_err-asked-clause-made g c =
    let t = terms c.args.wanted.now.name c.args.now (kinds_of c.args.handlers.now) in
    none_made g.D.Disk c.args.disk.now c.args.disk.now g.W.Wire.tells
    (wire_stands g.W.Wire c.args.wire.now) (wire_stands g.W.Wire c.args.wire.now) t
    c.args.wanted.now.batch c.args.play c.args.asks.now c.ask_next.new.asks c.from_residual.result
    (search rules) refl
    (λ told left e. g.met.D.Disk.only_now c.args.disk.now left told e)

pub returns-in_err-heard-clause-made : goal.returns-in_err-heard-clause-made
returns-in_err-heard-clause-made g c =
    let t = terms c.args.wanted.now.name c.args.now (kinds_of c.args.handlers.now) in
    none_made g.D.Disk c.args.disk.now c.args.disk.now g.W.Wire.tells
    (wire_stands g.W.Wire c.args.wire.now) (wire_stands g.W.Wire c.call_master.new.wire) t
    c.args.wanted.now.batch c.args.play c.args.asks.now c.ask_next.new.asks
    c.from_residual-in_err-heard.result (search rules) refl
    (λ told left e. g.met.D.Disk.only_now c.args.disk.now left told e)

pub returns-clause-made : goal.returns-clause-made
returns-clause-made g c =
    let kinds = kinds_of c.args.handlers.now in
    let name = c.args.wanted.now.name in
    let called : c.as_str-name.result.now ≡ name = search rules in
    let t = terms name c.args.now kinds in
    let w = c.args.play.playing.world in
    let asked = c.in_ok-asked.asked in
    let h = heard_of c.in_ok-heard.heard in
    let r = c.keep_heard.result in
    made_so g.D.Disk c.args.disk.now c.keep_heard.new.disk g.W.Wire.tells
    (wire_stands g.W.Wire c.args.wire.now) (wire_stands g.W.Wire c.call_master.new.wire) t
    c.args.wanted.now.batch c.args.play c.args.asks.now c.ask_next.new.asks r asked
    (subst (λ (n : List ℕ). asked_in w n (next_number c.args.asks.now) c.args.wanted.now.batch
    ≡ Some asked) called c.in_ok-asked.ensures.asked) h
    (search rules)
    (subst (λ (n : List ℕ). IfOk r (λ p.
    p.1 ≡ (heard_exchange (terms n c.args.now kinds) asked h w).came)) called
    c.keep_heard.ensures.came)
    (subst (λ (n : List ℕ). IfOk r (λ p. p.0.playing
    ≡ written (heard_exchange (terms n c.args.now kinds) asked h w).records c.args.play.playing))
    called c.keep_heard.ensures.session)
    c.keep_heard.ensures.limit
    (λ told bodies at. subst (λ (n : List ℕ). IsCrashSafe g.D.Disk c.args.disk.now
    c.keep_heard.new.disk bodies
    (bodies_of (heard_exchange (terms n c.args.now kinds) asked h w).records)
    c.args.play.journal.limit (λ p. IsPlayAt g.D.Disk c.keep_heard.new.disk p.0) r) called
    (c.keep_heard.ensures.safe told bodies at))
    (λ told schema at. c.in_ok-heard.ensures.heard told schema
    (ap (λ (n : List ℕ). schema_in w n) called ∙ at))
    c.in_ok-heard.ensures.failed c.in_ok-heard.ensures.got
