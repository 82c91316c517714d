use Rattle.std.proofs.Common.{◌∙◌, List, ℕ, ◌++◌, Err, ap, refl, subst, arith}
use Rattle.rx_outside.specs.Sink.{WritesFront}
use Rattle.rx_top.specs.Causes.{by_disk, never_read}
use Rattle.rx_top.proofs.Causes.{disk_so, ok_cause, stop_cause, sunk_cause}
use Rattle.rx_top.proofs.Settling.{commit_stopped, group_settled, group_sunk}
use Rattle.rx_top.proofs.group.Group.settle.Goals as goal

pub returns-in-Err-clause-settles : goal.returns-in-Err-clause-settles
returns-in-Err-clause-settles g c =
    commit_stopped g.D.Disk g.K.Sink.tells c.args.self c.args.disk.now c.commit.new.disk
    (g.K.Sink.written c.args.out.now) c.in-Err.stop c.in-Err.ensures.safe

pub returns-in-Ok-write_all-clause-settles : goal.returns-in-Ok-write_all-clause-settles
returns-in-Ok-write_all-clause-settles g c =
    group_settled g.D.Disk g.K.Sink.tells c.args.self c.args.disk.now c.commit.new.disk
    (g.K.Sink.written c.args.out.now) c.in-Ok.engine (g.K.Sink.written c.write_all.new.sink)
    c.in-Ok.ensures.safe c.in-Ok.ensures.same c.in-Ok.ensures.limit
    (λ k. c.in-Ok-write_all.ensures.ok k
    ∙ ap (λ (bs : List ℕ). g.K.Sink.written c.args.out.now ++ bs) c.as_bytes.ensures.value)

pub returns-clause-settles : goal.returns-clause-settles
returns-clause-settles g c =
    group_sunk g.D.Disk g.K.Sink.tells c.args.self c.args.disk.now c.commit.new.disk
    (g.K.Sink.written c.args.out.now) c.in-Ok.engine (g.K.Sink.written c.write_all.new.sink)
    c.in-Ok.ensures.safe
    (λ k. subst (λ (bs : List ℕ). WritesFront (g.K.Sink.written c.args.out.now)
    (g.K.Sink.written c.write_all.new.sink) bs) c.as_bytes.ensures.value
    (c.in-Err-write_all.ensures.err k))

-- ---- why it ended

pub returns-in-Err-clause-cause : goal.returns-in-Err-clause-cause
returns-in-Err-clause-cause g c =
    stop_cause g.K.Sink g.D.Disk never_read by_disk c.args.out.now c.args.out.now c.args.disk.now
    c.commit.new.disk (omega arith) c.in-Err.ensures.cause.later c.in-Err.stop
    (disk_so c.in-Err.stop (c.in-Err.ensures.only_disk c.in-Err.stop refl))
    (λ is. c.in-Err.ensures.cause.failed (ap Err is))

pub returns-in-Ok-write_all-clause-cause : goal.returns-in-Ok-write_all-clause-cause
returns-in-Ok-write_all-clause-cause g c =
    ok_cause g.K.Sink g.D.Disk never_read by_disk c.args.out.now c.write_all.new.sink
    c.args.disk.now c.commit.new.disk c.in-Ok-write_all.ensures.count c.in-Ok.ensures.cause.later _

pub returns-clause-cause : goal.returns-clause-cause
returns-clause-cause g c =
    sunk_cause g.K.Sink g.D.Disk never_read by_disk c.args.out.now c.write_all.new.sink
    c.args.disk.now c.commit.new.disk c.in-Err-write_all.ensures.count c.in-Ok.ensures.cause.later
    c.in-Err-write_all.ensures.failed
