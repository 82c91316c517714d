use Rattle.std.proofs.Common.{◌≡◌, ◌∙◌, sym, subst, refl, true, List, [], IfOk, arith}
use Rattle.rx_value.proofs.Outcomes.{if_ok}
use Rattle.rx_handler.specs.Shown.{kinds_of}
use Rattle.rx_record.specs.Content.{Content}
use Rattle.rx_session.specs.Session.{Session}
use Rattle.rx_store.specs.Safe.{IsCrashSafe}
use Rattle.rx_sync.specs.Remote.{Heard}
use Rattle.rx_world.specs.Sound.{IsSoundWorld}
use Rattle.rx_engine.specs.Engine.{Answers, IsAt, LeavesAll, asks_in, limit_of, session_of, standing_of}
use Rattle.rx_engine.specs.Lines.{IsIdleTask, turns, calls, sweeps, delivers}
use Rattle.rx_engine.specs.Meaning.{Meaning, bodies_of}
use Rattle.rx_engine.specs.Standing.{Standing}
use Rattle.rx_engine.specs.Shown.{WritesNoExchange, call_of, deliver_of, doing_of, sweep_of, turn_of}
use Rattle.rx_engine.proofs.CanSweeps.{can_sweep}
use Rattle.rx_engine.proofs.CanTurns.{can_call, can_turn}
use Rattle.rx_engine.proofs.Hearing.{plays_call, plays_none, plays_out_of_memory, shown_delivery, shown_printed, shown_sweep, shown_turn}
use Rattle.rx_engine.proofs.Meanings.{answers_so, busy_so, call_is, calling_so, delivering_so, delivery_is, delivery_so, left_so, may_do, not_refused, of_each, printed_is, records_so, refused_so, some_open, some_swept, sweep_is, sweep_so, sweeping_so, turn_is, turn_so}
use Rattle.rx_engine.proofs.LinesKept.{answered_kept, call_kept, delivery_kept, sweep_kept, turn_kept}
use Rattle.rx_engine.proofs.Outcomes.{lawful_outcome}
use Rattle.rx_engine.proofs.WellMeant.{in_order, in_order_as, well_meant}
use Rattle.rx_store.proofs.Stops.{memory_stop}
use Rattle.rx_engine.specs.declared.engine.Engine.{Engine}
use Rattle.rx_engine.specs.declared.output.Output.{Output}
use Rattle.rx_engine.proofs.engine.Engine.line.Goals as goal

pub returns-in_err-printed-clause-plays : goal.returns-in_err-printed-clause-plays
returns-in_err-printed-clause-plays g c =
    plays_out_of_memory g.D.Disk g.L.W.Wire.tells (kinds_of c.args.handlers.now) c.args.number
    c.args.text.now c.args.disk.now c.args.disk.now _
    _ c.args.self c.from_residual.result
    (memory_stop c.from_residual.result c.from_residual.ensures.1) refl
    (λ told left e. g.met.D.Disk.only_now c.args.disk.now left told e)

pub judge-requires : goal.judge-requires
judge-requires g c = record {
  sound = subst (λ (x : Session). IsSoundWorld x.world) (sym c.session.ensures.value)
      c.session.ensures.sound.sound;
}

-- ---- what is done is answered already

pub answer-requires-clause-may : goal.answer-requires-clause-may
unfolding session_of
answer-requires-clause-may g c =
    may_do c.session.result.now c.args.self.session.session c.session.ensures.value
    c.in_ok-printed.field-0 c.in-Printed.printed c.in-Printed.is c.in_ok-printed.ensures.may

pub answer-requires-clause-apart : goal.answer-requires-clause-apart
unfolding session_of asks_in standing_of
answer-requires-clause-apart g c =
    let s = standing_of (kinds_of c.args.handlers.now) [] c.args.self in
    let p = c.in-Printed.printed in
    let j = printed_is c.args.number s.kinds c.args.text.now c.session.result.now s.session
    c.session.ensures.value c.in_ok-printed.field-0 p c.in-Printed.is
    c.in_ok-printed.ensures.judged in
    subst WritesNoExchange (sym j.2.doing)
    (lawful_outcome s.kinds c.args.text.now s.session j.0 j.1).apart

pub returns-in-Printed-clause-plays : goal.returns-in-Printed-clause-plays
unfolding session_of asks_in standing_of
returns-in-Printed-clause-plays g c =
    let kinds = kinds_of c.args.handlers.now in
    let s : List Heard → Standing = λ heard. standing_of kinds heard c.args.self in
    let p = c.in-Printed.printed in
    let j = printed_is c.args.number kinds c.args.text.now c.session.result.now (s []).session
    c.session.ensures.value c.in_ok-printed.field-0 p c.in-Printed.is
    c.in_ok-printed.ensures.judged in
    let e = c.answer.ensures in
    plays_none g.D.Disk g.L.W.Wire.tells kinds c.args.number c.args.text.now c.args.disk.now
    c.answer.new.disk _ _ c.args.self
    c.answer.result
    (λ later. answers_so c.args.number c.args.text.now (s later) j.0 p j.1 j.2 c.answer.result
    e.session e.asks e.text e.emitted e.refused e.end)
    (λ later told bodies at.
    subst (λ (cs : List Content). IsCrashSafe g.D.Disk c.args.disk.now c.answer.new.disk bodies
    (bodies_of cs) (limit_of c.args.self) (λ x. IsAt g.D.Disk c.answer.new.disk x.0)
    c.answer.result)
    (records_so c.args.number c.args.text.now (s later) j.0 p j.1 j.2)
    (e.commits.safe told bodies at))
    (shown_printed g.D.Disk g.L.W.Wire.tells kinds c.args.number c.args.text.now c.args.disk.now
    c.answer.new.disk _ _ c.args.self
    c.answer.result j.0 j.1 refl)

pub returns-in-Printed-clause-refused : goal.returns-in-Printed-clause-refused
unfolding session_of asks_in standing_of
returns-in-Printed-clause-refused g c =
    let kinds = kinds_of c.args.handlers.now in
    let s : List Heard → Standing = λ heard. standing_of kinds heard c.args.self in
    let p = c.in-Printed.printed in
    let j = printed_is c.args.number kinds c.args.text.now c.session.result.now (s []).session
    c.session.ensures.value c.in_ok-printed.field-0 p c.in-Printed.is
    c.in_ok-printed.ensures.judged in
    let e = c.answer.ensures in
    let Leaves : Engine × Output → Type 0 = λ x. (heard : List Heard)
    → LeavesAll c.args.number c.args.text.now (s heard) x.0 x.1 in
    if_ok c.answer.result
    (λ x. x.1.refused ≡ true → (c.answer.new.disk ≡ c.args.disk.now) × Leaves x)
    (λ x. x.1.refused ≡ true → (c.answer.new.disk ≡ c.args.disk.now)
    × (c.args.dial.now ≡ c.args.dial.now) × ((heard : List Heard)
    → LeavesAll c.args.number c.args.text.now (s heard) x.0 x.1))
    (refused_so c.args.number c.args.text.now (s []) j.0 p j.1 j.2 Leaves
    (lawful_outcome kinds c.args.text.now (s []).session j.0 j.1).idle e.idle_disk c.answer.result
    e.refused
    (λ idle.
    of_each (λ heard x. LeavesAll c.args.number c.args.text.now (s heard) x.0 x.1) c.answer.result
    (λ heard.
    left_so c.args.number c.args.text.now (s heard) j.0 p j.1 j.2 c.answer.result
    (e.idle (j.2.doing ∙ idle)) e.asks e.end idle)))
    (λ x f is. let y = f is in (y.0, refl, y.1))

pub returns-in-Printed-clause-idle : goal.returns-in-Printed-clause-idle
unfolding session_of asks_in standing_of
returns-in-Printed-clause-idle g c is_idle =
    let kinds = kinds_of c.args.handlers.now in
    let s : List Heard → Standing = λ heard. standing_of kinds heard c.args.self in
    let p = c.in-Printed.printed in
    let j = printed_is c.args.number kinds c.args.text.now c.session.result.now (s []).session
    c.session.ensures.value c.in_ok-printed.field-0 p c.in-Printed.is
    c.in_ok-printed.ensures.judged in
    let e = c.answer.ensures in
    let idle = subst IsIdleTask j.1 is_idle in (
      e.idle_disk (j.2.doing ∙ idle),
      refl,
      of_each (λ heard x. LeavesAll c.args.number c.args.text.now (s heard) x.0 x.1)
          c.answer.result (λ heard.
          left_so c.args.number c.args.text.now (s heard) j.0 p j.1 j.2 c.answer.result
          (e.idle (j.2.doing ∙ idle)) e.asks e.end idle),
    )

pub returns-in-Printed-clause-not_journal : goal.returns-in-Printed-clause-not_journal
unfolding session_of asks_in standing_of
returns-in-Printed-clause-not_journal g c stopped =
    let s = standing_of (kinds_of c.args.handlers.now) [] c.args.self in
    let p = c.in-Printed.printed in
    let j = printed_is c.args.number s.kinds c.args.text.now c.session.result.now s.session
    c.session.ensures.value c.in_ok-printed.field-0 p c.in-Printed.is
    c.in_ok-printed.ensures.judged in
    let again = c.answer.ensures.not_journal stopped in
    (lawful_outcome s.kinds c.args.text.now s.session j.0 j.1).restarts again.0
    (sym j.2.doing ∙ again.1)

-- ---- a turn

pub answer_turn-requires-clause-can : goal.answer_turn-requires-clause-can
unfolding session_of asks_in standing_of
answer_turn-requires-clause-can g c =
    let s = standing_of (kinds_of c.args.handlers.now) [] c.args.self in
    let m = c.in-Turns.turn in
    let is = turn_is c.args.number s.kinds c.args.text.now c.session.result.now s.session
    c.session.ensures.value c.in_ok-printed.field-0 m c.in-Turns.is
    c.in_ok-printed.ensures.judged in
    can_turn s.kinds c.args.text.now s.session (turn_of m) is

pub returns-in-Turns-clause-plays : goal.returns-in-Turns-clause-plays
unfolding session_of asks_in standing_of
returns-in-Turns-clause-plays g c =
    let kinds = kinds_of c.args.handlers.now in
    let s : List Heard → Standing = λ heard. standing_of kinds heard c.args.self in
    let m = c.in-Turns.turn in
    let is = turn_is c.args.number kinds c.args.text.now c.session.result.now (s []).session
    c.session.ensures.value c.in_ok-printed.field-0 m c.in-Turns.is
    c.in_ok-printed.ensures.judged in
    let r = c.answer_turn.result in
    plays_none g.D.Disk g.L.W.Wire.tells kinds c.args.number c.args.text.now c.args.disk.now
    c.answer_turn.new.disk _ _ c.args.self r
    (λ later. subst (λ (x : Meaning). IfOk r (λ p. Answers kinds later x p.0 p.1))
    (turn_so c.args.number c.args.text.now (s later) (turn_of m) is)
    (c.answer_turn.ensures.answers later))
    (λ later told bodies at.
    subst (λ (x : Meaning). IsCrashSafe g.D.Disk c.args.disk.now c.answer_turn.new.disk bodies
    (bodies_of x.records) (limit_of c.args.self) (λ p. IsAt g.D.Disk c.answer_turn.new.disk p.0) r)
    (turn_so c.args.number c.args.text.now (s later) (turn_of m) is)
    (c.answer_turn.ensures.commits.safe told bodies at))
    (shown_turn g.D.Disk g.L.W.Wire.tells kinds c.args.number c.args.text.now c.args.disk.now
    c.answer_turn.new.disk _ _ c.args.self r
    (turn_of m) is refl)

pub returns-in-Turns-clause-idle : goal.returns-in-Turns-clause-idle
unfolding session_of asks_in standing_of
returns-in-Turns-clause-idle g c idle =
    let s = standing_of (kinds_of c.args.handlers.now) [] c.args.self in
    let m = c.in-Turns.turn in
    let is = turn_is c.args.number s.kinds c.args.text.now c.session.result.now s.session
    c.session.ensures.value c.in_ok-printed.field-0 m c.in-Turns.is
    c.in_ok-printed.ensures.judged in
    absurd (busy_so c.args.number c.args.text.now s (turn_of m) is idle)

-- ---- a turn to a master elsewhere

pub answer_call-requires-clause-can : goal.answer_call-requires-clause-can
unfolding session_of asks_in standing_of
answer_call-requires-clause-can g c =
    let s = standing_of (kinds_of c.args.handlers.now) [] c.args.self in
    let m = c.in-Calls.call in
    let is = call_is c.args.number s.kinds c.args.text.now c.session.result.now s.session
    c.session.ensures.value c.in_ok-printed.field-0 m c.in-Calls.is
    c.in_ok-printed.ensures.judged in
    can_call s.kinds c.args.text.now s.session (call_of m) is

pub returns-in-Calls-clause-plays : goal.returns-in-Calls-clause-plays
unfolding session_of asks_in standing_of
returns-in-Calls-clause-plays g c =
    let kinds = kinds_of c.args.handlers.now in
    let s = standing_of kinds [] c.args.self in
    let m = c.in-Calls.call in
    let is = call_is c.args.number kinds c.args.text.now c.session.result.now s.session
    c.session.ensures.value c.in_ok-printed.field-0 m c.in-Calls.is
    c.in_ok-printed.ensures.judged in
    plays_call g.D.Disk g.L.W.Wire.tells kinds c.args.number c.args.text.now c.args.disk.now
    c.answer_call.new.disk _ _
    c.args.self c.answer_call.result (call_of m) is c.answer_call.ensures.turned

pub returns-in-Calls-clause-idle : goal.returns-in-Calls-clause-idle
unfolding session_of asks_in standing_of
returns-in-Calls-clause-idle g c idle =
    let s = standing_of (kinds_of c.args.handlers.now) [] c.args.self in
    let m = c.in-Calls.call in
    let is = call_is c.args.number s.kinds c.args.text.now c.session.result.now s.session
    c.session.ensures.value c.in_ok-printed.field-0 m c.in-Calls.is
    c.in_ok-printed.ensures.judged in
    absurd (calling_so c.args.number c.args.text.now s (call_of m) is idle)

-- a turn isn't refused
pub returns-in-Turns-clause-refused : goal.returns-in-Turns-clause-refused
returns-in-Turns-clause-refused g c =
    not_refused _ c.answer_turn.result
    (if_ok c.answer_turn.result _ _ (c.answer_turn.ensures.answers []) (λ x a. a.refused))

pub returns-in-Calls-clause-refused : goal.returns-in-Calls-clause-refused
returns-in-Calls-clause-refused g c =
    not_refused _ c.answer_call.result
    (if_ok c.answer_call.result _ _ (c.answer_call.ensures.turned.so [])
    (λ x a. a.answers.refused))

-- ---- a delivery

pub answer_delivery-requires-clause-open : goal.answer_delivery-requires-clause-open
unfolding session_of asks_in standing_of
answer_delivery-requires-clause-open g c =
    some_open c.in_ok-printed.field-0 c.in-Delivers.deliver c.session.result.now
    c.args.self.session.session c.session.ensures.value c.in-Delivers.is c.in_ok-printed.ensures.may

pub returns-in-Delivers-clause-plays : goal.returns-in-Delivers-clause-plays
unfolding session_of asks_in standing_of
returns-in-Delivers-clause-plays g c =
    let kinds = kinds_of c.args.handlers.now in
    let s : List Heard → Standing = λ heard. standing_of kinds heard c.args.self in
    let m = c.in-Delivers.deliver in
    let is = delivery_is c.args.number kinds c.args.text.now c.session.result.now (s []).session
    c.session.ensures.value c.in_ok-printed.field-0 m c.in-Delivers.is
    c.in_ok-printed.ensures.judged in
    let r = c.answer_delivery.result in
    plays_none g.D.Disk g.L.W.Wire.tells kinds c.args.number c.args.text.now c.args.disk.now
    c.answer_delivery.new.disk _ _ c.args.self r
    (λ later. subst (λ (x : Meaning). IfOk r (λ p. Answers kinds later x p.0 p.1))
    (delivery_so c.args.number c.args.text.now (s later) (deliver_of m) is)
    (c.answer_delivery.ensures.answers kinds later))
    (λ later told bodies at.
    subst (λ (x : Meaning). IsCrashSafe g.D.Disk c.args.disk.now c.answer_delivery.new.disk bodies
    (bodies_of x.records) (limit_of c.args.self)
    (λ p. IsAt g.D.Disk c.answer_delivery.new.disk p.0) r)
    (delivery_so c.args.number c.args.text.now (s later) (deliver_of m) is)
    (c.answer_delivery.ensures.commits.safe told bodies at))
    (shown_delivery g.D.Disk g.L.W.Wire.tells kinds c.args.number c.args.text.now c.args.disk.now
    c.answer_delivery.new.disk _ _ c.args.self r
    (deliver_of m) is refl)

pub returns-in-Delivers-clause-idle : goal.returns-in-Delivers-clause-idle
unfolding session_of asks_in standing_of
returns-in-Delivers-clause-idle g c idle =
    let s = standing_of (kinds_of c.args.handlers.now) [] c.args.self in
    let m = c.in-Delivers.deliver in
    let is = delivery_is c.args.number s.kinds c.args.text.now c.session.result.now s.session
    c.session.ensures.value c.in_ok-printed.field-0 m c.in-Delivers.is
    c.in_ok-printed.ensures.judged in
    absurd (delivering_so c.args.number c.args.text.now s (deliver_of m) is idle)

pub returns-in-Delivers-clause-refused : goal.returns-in-Delivers-clause-refused
returns-in-Delivers-clause-refused g c =
    not_refused _ c.answer_delivery.result
    (if_ok c.answer_delivery.result _ _
    (c.answer_delivery.ensures.answers (kinds_of c.args.handlers.now) []) (λ x a. a.refused))

-- ---- the limit, and the cause of a stop

pub returns-in-Printed-clause-limit : goal.returns-in-Printed-clause-limit
returns-in-Printed-clause-limit g c = c.answer.ensures.commits.limit

pub returns-in-Printed-clause-cause : goal.returns-in-Printed-clause-cause
returns-in-Printed-clause-cause g c = c.answer.ensures.commits.cause

pub returns-in-Turns-clause-limit : goal.returns-in-Turns-clause-limit
returns-in-Turns-clause-limit g c = c.answer_turn.ensures.commits.limit

pub returns-in-Turns-clause-cause : goal.returns-in-Turns-clause-cause
returns-in-Turns-clause-cause g c = c.answer_turn.ensures.commits.cause

pub returns-in-Delivers-clause-limit : goal.returns-in-Delivers-clause-limit
returns-in-Delivers-clause-limit g c = c.answer_delivery.ensures.commits.limit

pub returns-in-Delivers-clause-cause : goal.returns-in-Delivers-clause-cause
returns-in-Delivers-clause-cause g c = c.answer_delivery.ensures.commits.cause

-- ---- the turns of a tree

pub answer_sweep-requires-clause-batch : goal.answer_sweep-requires-clause-batch
answer_sweep-requires-clause-batch g c =
    some_swept c.in_ok-printed.field-0 c.in-Sweeps.sweep c.session.result.now c.in-Sweeps.is
    c.in_ok-printed.ensures.may

pub answer_sweep-requires-clause-can : goal.answer_sweep-requires-clause-can
unfolding session_of asks_in standing_of
answer_sweep-requires-clause-can g c =
    let s = standing_of (kinds_of c.args.handlers.now) [] c.args.self in
    let m = c.in-Sweeps.sweep in
    let is = sweep_is c.args.number s.kinds c.args.text.now c.session.result.now s.session
    c.session.ensures.value c.in_ok-printed.field-0 m c.in-Sweeps.is
    c.in_ok-printed.ensures.judged in
    can_sweep s.kinds c.args.text.now s.session (sweep_of m) c.session.ensures.sound.made is

pub returns-in-Sweeps-clause-plays : goal.returns-in-Sweeps-clause-plays
unfolding session_of asks_in standing_of
returns-in-Sweeps-clause-plays g c =
    let kinds = kinds_of c.args.handlers.now in
    let s : List Heard → Standing = λ heard. standing_of kinds heard c.args.self in
    let m = c.in-Sweeps.sweep in
    let is = sweep_is c.args.number kinds c.args.text.now c.session.result.now (s []).session
    c.session.ensures.value c.in_ok-printed.field-0 m c.in-Sweeps.is
    c.in_ok-printed.ensures.judged in
    let r = c.answer_sweep.result in
    plays_none g.D.Disk g.L.W.Wire.tells kinds c.args.number c.args.text.now c.args.disk.now
    c.answer_sweep.new.disk _ _ c.args.self r
    (λ later. subst (λ (x : Meaning). IfOk r (λ p. Answers kinds later x p.0 p.1))
    (sweep_so c.args.number c.args.text.now (s later) (sweep_of m) is)
    (c.answer_sweep.ensures.answers later))
    (λ later told bodies at.
    subst (λ (x : Meaning). IsCrashSafe g.D.Disk c.args.disk.now c.answer_sweep.new.disk bodies
    (bodies_of x.records) (limit_of c.args.self)
    (λ p. IsAt g.D.Disk c.answer_sweep.new.disk p.0) r)
    (sweep_so c.args.number c.args.text.now (s later) (sweep_of m) is)
    (c.answer_sweep.ensures.commits.safe told bodies at))
    (shown_sweep g.D.Disk g.L.W.Wire.tells kinds c.args.number c.args.text.now c.args.disk.now
    c.answer_sweep.new.disk _ _ c.args.self r
    (sweep_of m) is refl)

pub returns-in-Sweeps-clause-idle : goal.returns-in-Sweeps-clause-idle
unfolding session_of asks_in standing_of
returns-in-Sweeps-clause-idle g c idle =
    let s = standing_of (kinds_of c.args.handlers.now) [] c.args.self in
    let m = c.in-Sweeps.sweep in
    let is = sweep_is c.args.number s.kinds c.args.text.now c.session.result.now s.session
    c.session.ensures.value c.in_ok-printed.field-0 m c.in-Sweeps.is
    c.in_ok-printed.ensures.judged in
    absurd (sweeping_so c.args.number c.args.text.now s (sweep_of m) is idle)

pub returns-in-Sweeps-clause-refused : goal.returns-in-Sweeps-clause-refused
returns-in-Sweeps-clause-refused g c =
    not_refused _ c.answer_sweep.result
    (if_ok c.answer_sweep.result _ _
    (c.answer_sweep.ensures.answers []) (λ x a. a.refused))

pub returns-in-Sweeps-clause-limit : goal.returns-in-Sweeps-clause-limit
returns-in-Sweeps-clause-limit g c = c.answer_sweep.ensures.commits.limit

pub returns-in-Sweeps-clause-cause : goal.returns-in-Sweeps-clause-cause
returns-in-Sweeps-clause-cause g c = c.answer_sweep.ensures.commits.cause

-- ---- what may be asked of its meaning

pub returns-in_err-printed-clause-meant : goal.returns-in_err-printed-clause-meant
unfolding session_of asks_in standing_of
returns-in_err-printed-clause-meant g c heard =
    well_meant c.args.text.now (standing_of (kinds_of c.args.handlers.now) heard c.args.self)
    c.session.ensures.sound c.session.ensures.streamed

pub returns-in-Printed-clause-meant : goal.returns-in-Printed-clause-meant
unfolding session_of asks_in standing_of
returns-in-Printed-clause-meant g c heard =
    well_meant c.args.text.now (standing_of (kinds_of c.args.handlers.now) heard c.args.self)
    c.session.ensures.sound c.session.ensures.streamed

pub returns-in-Turns-clause-meant : goal.returns-in-Turns-clause-meant
unfolding session_of asks_in standing_of
returns-in-Turns-clause-meant g c heard =
    well_meant c.args.text.now (standing_of (kinds_of c.args.handlers.now) heard c.args.self)
    c.session.ensures.sound c.session.ensures.streamed

pub returns-in-Calls-clause-meant : goal.returns-in-Calls-clause-meant
unfolding session_of asks_in standing_of
returns-in-Calls-clause-meant g c heard =
    well_meant c.args.text.now (standing_of (kinds_of c.args.handlers.now) heard c.args.self)
    c.session.ensures.sound c.session.ensures.streamed

pub returns-in-Delivers-clause-meant : goal.returns-in-Delivers-clause-meant
unfolding session_of asks_in standing_of
returns-in-Delivers-clause-meant g c heard =
    well_meant c.args.text.now (standing_of (kinds_of c.args.handlers.now) heard c.args.self)
    c.session.ensures.sound c.session.ensures.streamed

pub returns-in-Sweeps-clause-meant : goal.returns-in-Sweeps-clause-meant
unfolding session_of asks_in standing_of
returns-in-Sweeps-clause-meant g c heard =
    well_meant c.args.text.now (standing_of (kinds_of c.args.handlers.now) heard c.args.self)
    c.session.ensures.sound c.session.ensures.streamed

pub returns-in_err-printed-clause-in_order : goal.returns-in_err-printed-clause-in_order
returns-in_err-printed-clause-in_order g c other =
    absurd (other (memory_stop c.from_residual.result c.from_residual.ensures.1))

pub returns-in-Printed-clause-in_order : goal.returns-in-Printed-clause-in_order
unfolding session_of asks_in standing_of
returns-in-Printed-clause-in_order g c other =
    let s = standing_of (kinds_of c.args.handlers.now) [] c.args.self in
    let p = c.in-Printed.printed in
    let j = printed_is c.args.number s.kinds c.args.text.now c.session.result.now s.session
    c.session.ensures.value c.in_ok-printed.field-0 p c.in-Printed.is
    c.in_ok-printed.ensures.judged in
    in_order_as c.args.text.now s j.0 (doing_of p.doing) j.1 j.2.doing
    (may_do c.session.result.now c.args.self.session.session c.session.ensures.value
    c.in_ok-printed.field-0 p c.in-Printed.is c.in_ok-printed.ensures.may)

pub returns-in-Turns-clause-in_order : goal.returns-in-Turns-clause-in_order
unfolding session_of asks_in standing_of
returns-in-Turns-clause-in_order g c other =
    let s = standing_of (kinds_of c.args.handlers.now) [] c.args.self in
    let m = c.in-Turns.turn in
    let is = turn_is c.args.number s.kinds c.args.text.now c.session.result.now s.session
    c.session.ensures.value c.in_ok-printed.field-0 m c.in-Turns.is
    c.in_ok-printed.ensures.judged in
    in_order c.args.text.now s c.session.ensures.sound c.session.ensures.streamed
    (turns (turn_of m)) is (λ o same. absurd (cc))

pub returns-in-Calls-clause-in_order : goal.returns-in-Calls-clause-in_order
unfolding session_of asks_in standing_of
returns-in-Calls-clause-in_order g c other =
    let s = standing_of (kinds_of c.args.handlers.now) [] c.args.self in
    let m = c.in-Calls.call in
    let is = call_is c.args.number s.kinds c.args.text.now c.session.result.now s.session
    c.session.ensures.value c.in_ok-printed.field-0 m c.in-Calls.is
    c.in_ok-printed.ensures.judged in
    in_order c.args.text.now s c.session.ensures.sound c.session.ensures.streamed
    (calls (call_of m)) is (λ o same. absurd (cc))

pub returns-in-Delivers-clause-in_order : goal.returns-in-Delivers-clause-in_order
unfolding session_of asks_in standing_of
returns-in-Delivers-clause-in_order g c other =
    let s = standing_of (kinds_of c.args.handlers.now) [] c.args.self in
    let m = c.in-Delivers.deliver in
    let is = delivery_is c.args.number s.kinds c.args.text.now c.session.result.now s.session
    c.session.ensures.value c.in_ok-printed.field-0 m c.in-Delivers.is
    c.in_ok-printed.ensures.judged in
    in_order c.args.text.now s c.session.ensures.sound c.session.ensures.streamed
    (delivers (deliver_of m)) is (λ o same. absurd (cc))

pub returns-in-Sweeps-clause-in_order : goal.returns-in-Sweeps-clause-in_order
unfolding session_of asks_in standing_of
returns-in-Sweeps-clause-in_order g c other =
    let s = standing_of (kinds_of c.args.handlers.now) [] c.args.self in
    let m = c.in-Sweeps.sweep in
    let is = sweep_is c.args.number s.kinds c.args.text.now c.session.result.now s.session
    c.session.ensures.value c.in_ok-printed.field-0 m c.in-Sweeps.is
    c.in_ok-printed.ensures.judged in
    in_order c.args.text.now s c.session.ensures.sound c.session.ensures.streamed
    (sweeps (sweep_of m)) is (λ o same. absurd (cc))

-- ---- what may be asked of the world that it leaves

pub returns-in-Printed-clause-kept : goal.returns-in-Printed-clause-kept
unfolding session_of asks_in standing_of
returns-in-Printed-clause-kept g c =
    let s = standing_of (kinds_of c.args.handlers.now) [] c.args.self in
    let p = c.in-Printed.printed in
    let j = printed_is c.args.number s.kinds c.args.text.now c.session.result.now s.session
    c.session.ensures.value c.in_ok-printed.field-0 p c.in-Printed.is
    c.in_ok-printed.ensures.judged in
    answered_kept c.args.text.now s j.0 j.1 c.answer.result

pub returns-in-Turns-clause-kept : goal.returns-in-Turns-clause-kept
unfolding session_of asks_in standing_of
returns-in-Turns-clause-kept g c =
    let s = standing_of (kinds_of c.args.handlers.now) [] c.args.self in
    let m = c.in-Turns.turn in
    let is = turn_is c.args.number s.kinds c.args.text.now c.session.result.now s.session
    c.session.ensures.value c.in_ok-printed.field-0 m c.in-Turns.is
    c.in_ok-printed.ensures.judged in
    turn_kept c.args.text.now s (turn_of m) is c.answer_turn.result c.answer_turn.ensures.quiet

pub returns-in-Calls-clause-kept : goal.returns-in-Calls-clause-kept
unfolding session_of asks_in standing_of
returns-in-Calls-clause-kept g c =
    let s = standing_of (kinds_of c.args.handlers.now) [] c.args.self in
    let m = c.in-Calls.call in
    let is = call_is c.args.number s.kinds c.args.text.now c.session.result.now s.session
    c.session.ensures.value c.in_ok-printed.field-0 m c.in-Calls.is
    c.in_ok-printed.ensures.judged in
    call_kept c.args.text.now s (call_of m) is c.answer_call.result

pub returns-in-Delivers-clause-kept : goal.returns-in-Delivers-clause-kept
unfolding session_of asks_in standing_of
returns-in-Delivers-clause-kept g c =
    let s = standing_of (kinds_of c.args.handlers.now) [] c.args.self in
    let m = c.in-Delivers.deliver in
    let is = delivery_is c.args.number s.kinds c.args.text.now c.session.result.now s.session
    c.session.ensures.value c.in_ok-printed.field-0 m c.in-Delivers.is
    c.in_ok-printed.ensures.judged in
    delivery_kept c.args.text.now s c.session.ensures.sound c.session.ensures.streamed
    (deliver_of m) is c.answer_delivery.result c.args.number
    (c.answer_delivery.ensures.answers s.kinds [])

pub returns-in-Sweeps-clause-kept : goal.returns-in-Sweeps-clause-kept
unfolding session_of asks_in standing_of
returns-in-Sweeps-clause-kept g c =
    let s = standing_of (kinds_of c.args.handlers.now) [] c.args.self in
    let m = c.in-Sweeps.sweep in
    let is = sweep_is c.args.number s.kinds c.args.text.now c.session.result.now s.session
    c.session.ensures.value c.in_ok-printed.field-0 m c.in-Sweeps.is
    c.in_ok-printed.ensures.judged in
    sweep_kept c.args.text.now s c.session.ensures.sound (sweep_of m) is c.answer_sweep.result
    c.args.number (c.answer_sweep.ensures.answers [])

-- ---- the dial

pub returns-in_err-printed-clause-dials : goal.returns-in_err-printed-clause-dials
returns-in_err-printed-clause-dials g c = record { undialled = λ none. refl; count = omega arith }

pub returns-in-Printed-clause-dials : goal.returns-in-Printed-clause-dials
returns-in-Printed-clause-dials g c = record { undialled = λ none. refl; count = omega arith }

pub returns-in-Turns-clause-dials : goal.returns-in-Turns-clause-dials
returns-in-Turns-clause-dials g c = record { undialled = λ none. refl; count = omega arith }

pub returns-in-Delivers-clause-dials : goal.returns-in-Delivers-clause-dials
returns-in-Delivers-clause-dials g c = record { undialled = λ none. refl; count = omega arith }

pub returns-in-Sweeps-clause-dials : goal.returns-in-Sweeps-clause-dials
returns-in-Sweeps-clause-dials g c = record { undialled = λ none. refl; count = omega arith }

pub returns-in-Calls-clause-dials : goal.returns-in-Calls-clause-dials
unfolding session_of asks_in standing_of
returns-in-Calls-clause-dials g c =
    let s = standing_of (kinds_of c.args.handlers.now) [] c.args.self in
    let m = c.in-Calls.call in
    let is = call_is c.args.number s.kinds c.args.text.now c.session.result.now s.session
    c.session.ensures.value c.in_ok-printed.field-0 m c.in-Calls.is
    c.in_ok-printed.ensures.judged in
    record {
      undialled = λ none. absurd (none (call_of m) is);
      count = c.answer_call.ensures.dial_count;
    }
