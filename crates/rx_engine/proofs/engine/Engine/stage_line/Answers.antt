use Rattle.std.proofs.Common.{sym, subst}
use Rattle.rx_value.proofs.Outcomes.{if_ok}
use Rattle.rx_handler.specs.Shown.{kinds_of}
use Rattle.rx_session.specs.Session.{Session}
use Rattle.rx_world.specs.Sound.{IsSoundWorld}
use Rattle.rx_engine.specs.Ahead.{StagesLine, StagesPrinted}
use Rattle.rx_engine.specs.Engine.{session_of}
use Rattle.rx_engine.specs.Shown.{WritesNoExchange}
use Rattle.rx_engine.proofs.Ahead.{left_as_it_is, stages_printed}
use Rattle.rx_engine.proofs.Meanings.{may_do, printed_is}
use Rattle.rx_engine.proofs.Outcomes.{lawful_outcome}
use Rattle.rx_engine.proofs.engine.Engine.stage_line.Goals as goal

pub judge-requires : goal.judge-requires
judge-requires g c = record {
  sound = subst (λ (x : Session). IsSoundWorld x.world) (sym c.session.ensures.value)
      c.session.ensures.sound.sound;
}

pub stage_printed-requires-clause-held : goal.stage_printed-requires-clause-held
stage_printed-requires-clause-held g c = c.session.ensures.sound

pub stage_printed-requires-clause-may : goal.stage_printed-requires-clause-may
unfolding session_of
stage_printed-requires-clause-may g c =
    may_do c.session.result.now c.args.self.session.session c.session.ensures.value
    c.in_ok-printed.field-0 c.in-Printed.printed c.in-Printed.is c.in_ok-printed.ensures.may

pub stage_printed-requires-clause-apart : goal.stage_printed-requires-clause-apart
unfolding session_of
stage_printed-requires-clause-apart g c =
    let kinds = kinds_of c.args.handlers.now in
    let s = c.args.self.session.session in
    let p = c.in-Printed.printed in
    let j = printed_is c.args.number kinds c.args.text.now c.session.result.now s
    c.session.ensures.value c.in_ok-printed.field-0 p c.in-Printed.is
    c.in_ok-printed.ensures.judged in
    subst WritesNoExchange (sym j.2.doing) (lawful_outcome kinds c.args.text.now s j.0 j.1).apart

pub returns-in-Printed : goal.returns-in-Printed
unfolding session_of
returns-in-Printed g c =
    let kinds = kinds_of c.args.handlers.now in
    let s = c.args.self.session.session in
    let p = c.in-Printed.printed in
    let j = printed_is c.args.number kinds c.args.text.now c.session.result.now s
    c.session.ensures.value c.in_ok-printed.field-0 p c.in-Printed.is
    c.in_ok-printed.ensures.judged in
    if_ok c.stage_printed.result (StagesPrinted p c.args.self)
    (StagesLine kinds c.args.number c.args.text.now c.args.self) c.stage_printed.ensures
    (stages_printed kinds c.args.number c.args.text.now c.args.self j.0 p j.1 j.2
    c.session.ensures.sound c.session.ensures.streamed
    (may_do c.session.result.now s c.session.ensures.value c.in_ok-printed.field-0 p
    c.in-Printed.is c.in_ok-printed.ensures.may))

pub returns-in-Turns : goal.returns-in-Turns
returns-in-Turns g c = left_as_it_is c.args.self

pub returns-in-Calls : goal.returns-in-Calls
returns-in-Calls g c = left_as_it_is c.args.self

pub returns-in-Sweeps : goal.returns-in-Sweeps
returns-in-Sweeps g c = left_as_it_is c.args.self

-- a delivery
pub returns : goal.returns
returns g c = left_as_it_is c.args.self
