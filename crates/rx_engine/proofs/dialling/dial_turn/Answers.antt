use Rattle.std.proofs.Common.{◌∙◌, ◌∷◌, ◌++◌, [], ℕ, List, ap, refl, rules}
use Rattle.rx_handler.specs.Shown.{kinds_of}
use Rattle.rx_outside.specs.Talk.{Talk, broken_after, talk}
use Rattle.rx_sync.specs.Remote.{Heard, remote_turn}
use Rattle.rx_engine.specs.Callings.{IsHeardOver, IsRemoteMade, wire_stands}
use Rattle.rx_engine.specs.Play.{IsPlayAt}
use Rattle.rx_engine.specs.Turning.{terms}
use Rattle.rx_engine.specs.declared.turning.Turned.{Turned as Made}
use Rattle.rx_engine.proofs.Dialled.{handed_back, missed_so, none_called}
use Rattle.rx_engine.proofs.Remotely.{in_words, ran_out_then}
use Rattle.rx_engine.proofs.dialling.dial_turn.Goals as goal

pub returns-in_err-close-in-Ok-clause-turned : goal.returns-in_err-close-in-Ok-clause-turned
returns-in_err-close-in-Ok-clause-turned g c =
    ran_out_then g.D.Disk c.args.disk.now c.call_turn-made.new.disk
    c.args.play.journal.limit _ _ _ _
    _ c.call_turn-made.result c.call_turn-made.ensures.turned _ _ _ c.from_residual.result
    (search rules)

pub returns-in_ok-close-in-Ok-clause-turned : goal.returns-in_ok-close-in-Ok-clause-turned
returns-in_ok-close-in-Ok-clause-turned g c =
    let name = c.args.wanted.now.name in
    let t = terms name c.args.now (kinds_of c.args.handlers.now) in
    let w = c.args.play.playing.world in
    let turn = λ (heard : List Heard).
    remote_turn t c.args.wanted.now.batch c.args.wanted.now.budget heard w c.args.asks.now in
    let wire = wire_stands g.L.W.Wire c.in-Ok.wire in
    let then_wire = wire_stands g.L.W.Wire c.call_turn-made.new.wire in
    let more : Talk =
    talk then_wire.given then_wire.left then_wire.sent then_wire.faults in
    in_words g.D.Disk c.args.disk.now c.call_turn-made.new.disk c.args.play.journal.limit
    (IsPlayAt g.D.Disk c.args.disk.now c.args.play)
    (λ (m : Made). IsPlayAt g.D.Disk c.call_turn-made.new.disk m.play) turn
    (IsRemoteMade c.args.play.playing c.call_turn-made.new.asks)
    (IsHeardOver g.L.W.Wire.tells w name wire then_wire) c.call_turn-made.result
    c.call_turn-made.ensures.turned
    (IsPlayAt g.D.Disk c.args.disk.now c.args.play)
    (λ (m : Made). IsPlayAt g.D.Disk c.call_turn-made.new.disk m.play) turn
    (IsRemoteMade c.args.play.playing c.call_turn-made.new.asks) _
    (λ bodies at. at) (λ m bodies held. held) (λ heard. refl) (λ u later m so. so)
    (handed_back g.L.W.Wire.tells c.args.wanted.now.port w name wire then_wire _ _ (search rules)
    (c.in_ok-close-in-Ok.ensures.breaks
    ∙ ap (λ (n : ℕ). broken_after n then_wire.faults) c.dial.ensures.same_broken)
    (λ told. c.in_ok-close-in-Ok.ensures.joins told
    ∙ ap (λ (ts : List Talk). ts ++ more ∷ []) c.dial.ensures.same_talks)
    (λ told. c.in_ok-close-in-Ok.ensures.keeps_asked ∙ c.in-Ok.ensures.asks told))

pub returns-in_err-miss_turn-in-Err-clause-turned :
    goal.returns-in_err-miss_turn-in-Err-clause-turned
returns-in_err-miss_turn-in-Err-clause-turned g c =
    let t = terms c.args.wanted.now.name c.args.now (kinds_of c.args.handlers.now) in
    none_called g.D.Disk c.args.disk.now
    (λ told left e. g.met.D.Disk.only_now c.args.disk.now left told e) g.L.W.Wire.tells t
    c.args.wanted.now.batch c.args.wanted.now.budget c.args.play c.args.asks.now
    c.miss_turn.new.asks
    c.args.wanted.now.port (record { faults = 0; broken = 0; talks = []; asked = [] })
    (record { faults = 0; broken = 0; talks = []; asked = [] })
    _ _ c.from_residual-in_err-miss_turn-in-Err.result
    (search rules)

pub returns-in_ok-miss_turn-in-Err-clause-turned :
    goal.returns-in_ok-miss_turn-in-Err-clause-turned
returns-in_ok-miss_turn-in-Err-clause-turned g c =
    let t = terms c.args.wanted.now.name c.args.now (kinds_of c.args.handlers.now) in
    missed_so g.D.Disk c.args.disk.now
    (λ told left e. g.met.D.Disk.only_now c.args.disk.now left told e) g.L.W.Wire.tells t
    c.args.wanted.now.batch c.args.wanted.now.budget c.args.play c.args.asks.now
    c.miss_turn.new.asks c.args.wanted.now.port _ _ c.in_ok-miss_turn-in-Err.field-0
    c.in_ok-miss_turn-in-Err.ensures.missed
    c.requires.budget c.in-Err.ensures.failed c.dial.ensures.same_broken c.dial.ensures.same_talks
    c.in-Err.ensures.asks_once
