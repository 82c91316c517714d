use Rattle.std.proofs.Common.{◌∙◌, ℕ, List, [], ◌∷◌, ◌++◌, None, inl, refl, sym, ap, append-nil}
use Rattle.std.proofs.lemmas.Result.{IfOk-weaker}
use Rattle.rx_outside.specs.Talk.{Talk, talk}
use Rattle.rx_serve.specs.Ends.{joined_since}
use Rattle.rx_host.specs.Moments.{GivesMoments}
use Rattle.rx_host.proofs.Causes.{line_cause, stop_cause}
use Rattle.rx_host.proofs.Kept.{kept_left, kept_none}
use Rattle.rx_host.proofs.OneMore.{came_as, line_halts, may_stop, not_returned, one_ended, one_within, risen, some_left, unwritten, went_as}
use Rattle.rx_host.proofs.connections.serve_next.Goals as goal

-- ---- no wire came

pub returns-in_default-clause-halted : goal.returns-in_default-clause-halted
returns-in_default-clause-halted g c = record {
  opened = λ told. c.in_default.ensures.only_gives.opened;
  accepted = λ told. c.in_default.ensures.gives_none;
  talks = λ told. c.in_default.ensures.only_gives.talks;
  written = λ told. refl;
  moments = λ told. inl (sym (append-nil (g.C.Clock.given c.args.clock.now)));
  kept = λ told.
      kept_left g.D.Disk c.args.disk.now c.args.disk.now c.args.engine c.args.engine []
      (kept_none g.D.Disk (λ disk i tells left. g.met.D.Disk.only_now disk i tells left)
      c.args.disk.now c.args.engine);
}

pub returns-in_default-clause-left : goal.returns-in_default-clause-left
returns-in_default-clause-left g c = (
  [],
  [],
  None,
  refl,
  kept_left g.D.Disk c.args.disk.now c.args.disk.now c.args.engine c.args.engine []
      (kept_none g.D.Disk (λ disk i tells left. g.met.D.Disk.only_now disk i tells left)
      c.args.disk.now c.args.engine),
)

-- ---- it wasn't handed back

pub returns-in_default-close-clause-halted : goal.returns-in_default-close-clause-halted
returns-in_default-close-clause-halted g c =
    let w = c.in-Ok.wire in
    let w' = c.serve-served.new.wire in
    let t : Talk = talk (g.L.W.Wire.given w') (g.L.W.Wire.left w') (g.L.W.Wire.sent w')
    (g.L.W.Wire.faults w') in
    let Given : List ℕ → Type 0 = λ moments. g.C.Clock.tells
    → GivesMoments (g.C.Clock.given c.args.clock.now) (g.C.Clock.given c.serve-served.new.clock)
    moments in
    not_returned g.D.Disk c.args.disk.now c.serve-served.new.disk c.args.engine g.L.W.Wire.tells
    g.K.Sink.tells Given t (g.L.W.Wire.left w)
    (joined_since (g.L.W.Wire.sent w) (g.L.W.Wire.sent w'))
    (λ told. came_as (g.L.W.Wire.given w) (g.L.W.Wire.left w) (g.L.W.Wire.given w')
    (g.L.W.Wire.left w') (c.in-Ok.ensures.new_wire.given told)
    (c.serve-served.ensures.wire.whole told))
    (λ told. went_as (g.L.W.Wire.sent w) (g.L.W.Wire.sent w')
    (joined_since (g.L.W.Wire.sent w) (g.L.W.Wire.sent w')) (c.in-Ok.ensures.new_wire.sent told)
    (c.serve-served.ensures.wire.sent told))
    c.serve-served.result c.serve-served.ensures.served
    (IfOk-weaker c.serve-served.result _ _
    (λ p rises broke. risen _ _ c.in-Ok.ensures.new_wire.faults (rises broke))
    c.serve-served.ensures.failed)
    c.serve-served.ensures.stopped _ _
    (λ told. (
      c.in_default-close.ensures.same_opened ∙ c.in-Ok.ensures.only_gives.opened,
      c.in_default-close.ensures.same_accepted ∙ c.in-Ok.ensures.gives told,
    ))
    (λ told. c.in_default-close.ensures.keeps_talks ∙ c.in-Ok.ensures.only_gives.talks)
    (λ told. refl)

pub returns-in_default-close-clause-left : goal.returns-in_default-close-clause-left
returns-in_default-close-clause-left g c =
    some_left g.D.Disk c.args.disk.now c.serve-served.new.disk c.args.engine c.serve-served.result
    c.serve-served.ensures.kept c.serve-served.ensures.left

-- ---- it was served to its end

pub returns-in-Ok-write_line-clause-served : goal.returns-in-Ok-write_line-clause-served
returns-in-Ok-write_line-clause-served g c =
    let w = c.in-Ok.wire in
    let w' = c.serve-served.new.wire in
    let t : Talk = talk (g.L.W.Wire.given w') (g.L.W.Wire.left w') (g.L.W.Wire.sent w')
    (g.L.W.Wire.faults w') in
    let Given : List ℕ → Type 0 = λ moments. g.C.Clock.tells
    → GivesMoments (g.C.Clock.given c.args.clock.now) (g.C.Clock.given c.serve-served.new.clock)
    moments in
    one_ended g.D.Disk c.args.disk.now c.serve-served.new.disk c.args.engine g.L.W.Wire.tells
    g.K.Sink.tells Given t (g.L.W.Wire.left w)
    (joined_since (g.L.W.Wire.sent w) (g.L.W.Wire.sent w'))
    (λ told. came_as (g.L.W.Wire.given w) (g.L.W.Wire.left w) (g.L.W.Wire.given w')
    (g.L.W.Wire.left w') (c.in-Ok.ensures.new_wire.given told)
    (c.serve-served.ensures.wire.whole told))
    (λ told. went_as (g.L.W.Wire.sent w) (g.L.W.Wire.sent w')
    (joined_since (g.L.W.Wire.sent w) (g.L.W.Wire.sent w')) (c.in-Ok.ensures.new_wire.sent told)
    (c.serve-served.ensures.wire.sent told))
    (c.in-Ok-served.engine, c.in-Ok-served.ended) c.in-Ok-served.ensures.served
    (λ broke. risen _ _ c.in-Ok.ensures.new_wire.faults (c.in-Ok-served.ensures.failed broke))
    c.args.number _ _
    (λ told. (
      c.in-Ok-close.ensures.same_opened ∙ c.in-Ok.ensures.only_gives.opened,
      c.in-Ok-close.ensures.same_accepted ∙ c.in-Ok.ensures.gives told,
    ))
    (λ told.
    c.in-Ok-close.ensures.joins told ∙ ap (λ ts. ts ++ t ∷ []) c.in-Ok.ensures.only_gives.talks)
    (λ told. c.in-Ok-write_line.ensures.ok told)

pub returns-in-Err-write_line-clause-halted : goal.returns-in-Err-write_line-clause-halted
returns-in-Err-write_line-clause-halted g c =
    let w = c.in-Ok.wire in
    let w' = c.serve-served.new.wire in
    let t : Talk = talk (g.L.W.Wire.given w') (g.L.W.Wire.left w') (g.L.W.Wire.sent w')
    (g.L.W.Wire.faults w') in
    let Given : List ℕ → Type 0 = λ moments. g.C.Clock.tells
    → GivesMoments (g.C.Clock.given c.args.clock.now) (g.C.Clock.given c.serve-served.new.clock)
    moments in
    line_halts g.D.Disk c.args.disk.now c.serve-served.new.disk c.args.engine g.L.W.Wire.tells
    g.K.Sink.tells Given t (g.L.W.Wire.left w)
    (joined_since (g.L.W.Wire.sent w) (g.L.W.Wire.sent w'))
    (λ told. came_as (g.L.W.Wire.given w) (g.L.W.Wire.left w) (g.L.W.Wire.given w')
    (g.L.W.Wire.left w') (c.in-Ok.ensures.new_wire.given told)
    (c.serve-served.ensures.wire.whole told))
    (λ told. went_as (g.L.W.Wire.sent w) (g.L.W.Wire.sent w')
    (joined_since (g.L.W.Wire.sent w) (g.L.W.Wire.sent w')) (c.in-Ok.ensures.new_wire.sent told)
    (c.serve-served.ensures.wire.sent told))
    (c.in-Ok-served.engine, c.in-Ok-served.ended) c.in-Ok-served.ensures.served
    (λ broke. risen _ _ c.in-Ok.ensures.new_wire.faults (c.in-Ok-served.ensures.failed broke))
    c.args.number _ _ c.in-Err-write_line.fault
    (λ told. (
      c.in-Ok-close.ensures.same_opened ∙ c.in-Ok.ensures.only_gives.opened,
      c.in-Ok-close.ensures.same_accepted ∙ c.in-Ok.ensures.gives told,
    ))
    (λ told.
    c.in-Ok-close.ensures.joins told ∙ ap (λ ts. ts ++ t ∷ []) c.in-Ok.ensures.only_gives.talks)
    c.in-Err-write_line.ensures.no_door
    (λ why is. let none = c.in-Err-write_line.ensures.none why is in
    (none.0, λ told. ap (λ out. g.K.Sink.written out) none.1))
    c.in-Err-write_line.ensures.front

pub returns-in-Err-write_line-clause-left : goal.returns-in-Err-write_line-clause-left
returns-in-Err-write_line-clause-left g c =
    let kept = c.in-Ok-served.ensures.kept in (
      kept.0,
      [],
      None,
      unwritten c.in-Err-write_line.fault c.in-Err-write_line.ensures.no_door
          (λ why is. (c.in-Err-write_line.ensures.none why is).0),
      kept_left g.D.Disk c.args.disk.now c.serve-served.new.disk c.args.engine c.in-Ok-served.engine
          kept.0 kept.1,
    )

-- ---- a stop came

pub returns-in-Err-clause-halted : goal.returns-in-Err-clause-halted
returns-in-Err-clause-halted g c =
    let w = c.in-Ok.wire in
    let w' = c.serve-served.new.wire in
    let t : Talk = talk (g.L.W.Wire.given w') (g.L.W.Wire.left w') (g.L.W.Wire.sent w')
    (g.L.W.Wire.faults w') in
    let Given : List ℕ → Type 0 = λ moments. g.C.Clock.tells
    → GivesMoments (g.C.Clock.given c.args.clock.now) (g.C.Clock.given c.serve-served.new.clock)
    moments in
    one_within g.D.Disk c.args.disk.now c.serve-served.new.disk c.args.engine g.L.W.Wire.tells
    g.K.Sink.tells Given t (g.L.W.Wire.left w)
    (joined_since (g.L.W.Wire.sent w) (g.L.W.Wire.sent w'))
    (λ told. came_as (g.L.W.Wire.given w) (g.L.W.Wire.left w) (g.L.W.Wire.given w')
    (g.L.W.Wire.left w') (c.in-Ok.ensures.new_wire.given told)
    (c.serve-served.ensures.wire.whole told))
    (λ told. went_as (g.L.W.Wire.sent w) (g.L.W.Wire.sent w')
    (joined_since (g.L.W.Wire.sent w) (g.L.W.Wire.sent w')) (c.in-Ok.ensures.new_wire.sent told)
    (c.serve-served.ensures.wire.sent told))
    c.in-Err.stop c.in-Err.stop c.in-Err.ensures.stopped (inl refl) _ _
    (λ told. (
      c.in-Ok-close.ensures.same_opened ∙ c.in-Ok.ensures.only_gives.opened,
      c.in-Ok-close.ensures.same_accepted ∙ c.in-Ok.ensures.gives told,
    ))
    (λ told. inl (c.in-Ok-close.ensures.joins told
    ∙ ap (λ ts. ts ++ t ∷ []) c.in-Ok.ensures.only_gives.talks))
    (λ told. refl)

pub returns-in-Err-clause-left : goal.returns-in-Err-clause-left
returns-in-Err-clause-left g c =
    let left = c.in-Err.ensures.left in
    (left.0, left.1, left.2, may_stop c.in-Err.stop left.2 left.3, left.4)

-- ---- causes and counts

pub returns-in-Err-write_line-clause-cause : goal.returns-in-Err-write_line-clause-cause
returns-in-Err-write_line-clause-cause g c =
    line_cause c.in-Err-write_line.fault _ _ c.in-Err-write_line.ensures.no_door
    (λ why is. (c.in-Err-write_line.ensures.none why is).0) c.in-Err-write_line.ensures.failed

pub returns-in-Err-clause-cause : goal.returns-in-Err-clause-cause
returns-in-Err-clause-cause g c =
    stop_cause c.in-Err.stop _ _ c.in-Err.ensures.cause c.in-Err.ensures.not_journal
