use Rattle.std.proofs.Common.{◌∙◌, ◌++◌, ℕ, List, [], Err, sym, ap, subst, arith}
use Rattle.rx_outside.specs.Sink.{WritesFront}
use Rattle.rx_handler.specs.Shown.{kinds_of}
use Rattle.rx_top.specs.Causes.{by_any, never_read}
use Rattle.rx_top.proofs.Causes.{any_so, ok_cause, stop_cause, sunk_cause}
use Rattle.rx_top.proofs.Work.{blank_works, done_works, stop_works, sunk_works}
use Rattle.rx_top.proofs.play.play_line.Goals as goal

pub returns-then-is_blank-clause-works : goal.returns-then-is_blank-clause-works
returns-then-is_blank-clause-works g c =
    blank_works
    (kinds_of c.args.handlers.now) g.N.W.Wire.tells g.K.Sink.tells g.D.Disk c.args.engine
    c.args.number c.args.line.now c.args.disk.now _ (g.K.Sink.written c.args.out.now)
    (sym c.is_blank.ensures ∙ c.if-is_blank.true)
    (λ t f. g.met.D.Disk.only_now c.args.disk.now f t)

pub returns-in-Err-clause-works : goal.returns-in-Err-clause-works
returns-in-Err-clause-works g c =
    stop_works (kinds_of c.args.handlers.now) g.N.W.Wire.tells g.K.Sink.tells g.D.Disk c.args.engine
    c.args.number c.args.line.now c.args.disk.now c.line.new.disk _ _
    (sym c.is_blank.ensures ∙ c.if-is_blank.false) (g.K.Sink.written c.args.out.now) c.in-Err.stop
    c.in-Err.ensures.plays c.in-Err.ensures.meant

pub returns-in-Ok-write_all-clause-works : goal.returns-in-Ok-write_all-clause-works
returns-in-Ok-write_all-clause-works g c =
    done_works (kinds_of c.args.handlers.now) g.N.W.Wire.tells g.K.Sink.tells g.D.Disk c.args.engine
    c.args.number c.args.line.now c.args.disk.now c.line.new.disk _ _
    (sym c.is_blank.ensures ∙ c.if-is_blank.false) (g.K.Sink.written c.args.out.now)
    (g.K.Sink.written c.write_all.new.sink) c.in-Ok.pair c.in-Ok.ensures.plays c.in-Ok.ensures.meant
    (c.in-Ok.ensures.in_order (λ is. cc)) c.in-Ok.ensures.kept
    (λ k. c.in-Ok-write_all.ensures.ok k
    ∙ ap (λ (bs : List ℕ). g.K.Sink.written c.args.out.now ++ bs) c.as_bytes.ensures.value)

pub returns-in-Err-write_all-clause-works : goal.returns-in-Err-write_all-clause-works
returns-in-Err-write_all-clause-works g c =
    sunk_works (kinds_of c.args.handlers.now) g.N.W.Wire.tells g.K.Sink.tells g.D.Disk c.args.engine
    c.args.number c.args.line.now c.args.disk.now c.line.new.disk _ _
    (sym c.is_blank.ensures ∙ c.if-is_blank.false) (g.K.Sink.written c.args.out.now)
    (g.K.Sink.written c.write_all.new.sink) c.in-Ok.pair c.in-Ok.ensures.plays c.in-Ok.ensures.meant
    (c.in-Ok.ensures.in_order (λ is. cc)) c.in-Ok.ensures.kept
    (λ k. subst (λ (bs : List ℕ). WritesFront (g.K.Sink.written c.args.out.now)
    (g.K.Sink.written c.write_all.new.sink) bs) c.as_bytes.ensures.value
    (c.in-Err-write_all.ensures.err k))

-- ---- why it ended

pub returns-then-is_blank-clause-cause : goal.returns-then-is_blank-clause-cause
returns-then-is_blank-clause-cause g c =
    ok_cause g.K.Sink g.D.Disk never_read (by_any (g.D.Disk.tells → ⊥)) c.args.out.now
    c.args.out.now c.args.disk.now c.args.disk.now (omega arith) (omega arith) _

pub returns-in-Err-clause-cause : goal.returns-in-Err-clause-cause
returns-in-Err-clause-cause g c =
    stop_cause g.K.Sink g.D.Disk never_read (by_any (g.D.Disk.tells → ⊥)) c.args.out.now
    c.args.out.now c.args.disk.now c.line.new.disk (omega arith) c.in-Err.ensures.cause.later
    c.in-Err.stop
    (any_so (g.D.Disk.tells → ⊥) c.in-Err.stop
    (λ is t.
    let at = c.requires t in
    (c.in-Err.ensures.plays.safe [] t at.0 at.1).not_journal (ap Err is)))
    (λ is. c.in-Err.ensures.cause.failed (ap Err is))

pub returns-in-Ok-write_all-clause-cause : goal.returns-in-Ok-write_all-clause-cause
returns-in-Ok-write_all-clause-cause g c =
    ok_cause g.K.Sink g.D.Disk never_read (by_any (g.D.Disk.tells → ⊥)) c.args.out.now
    c.write_all.new.sink c.args.disk.now c.line.new.disk c.in-Ok-write_all.ensures.count
    c.in-Ok.ensures.cause.later _

pub returns-in-Err-write_all-clause-cause : goal.returns-in-Err-write_all-clause-cause
returns-in-Err-write_all-clause-cause g c =
    sunk_cause g.K.Sink g.D.Disk never_read (by_any (g.D.Disk.tells → ⊥)) c.args.out.now
    c.write_all.new.sink c.args.disk.now c.line.new.disk c.in-Err-write_all.ensures.count
    c.in-Ok.ensures.cause.later c.in-Err-write_all.ensures.failed
