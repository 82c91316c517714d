use Rattle.std.proofs.Common.{◌∙◌, [], Ok, Err, refl, arith}
use Rattle.rx_engine.specs.Engine.{session_of}
use Rattle.rx_handler.specs.Shown.{kinds_of}
use Rattle.rx_outside.specs.declared.stop.Stop.TheVariants.{Memory}
use Rattle.rx_store.proofs.Staged.{more_due, none_due}
use Rattle.rx_top.specs.Causes.{by_disk, by_disk_or_memory, never_read}
use Rattle.rx_top.proofs.Causes.{later_cause, ok_cause, or_memory, same_cause, stop_cause}
use Rattle.rx_top.proofs.Gathering.{group_failed, group_works, grown_by, none_grown_by, none_works}
use Rattle.rx_top.proofs.Joining.{group_joined}
use Rattle.rx_top.proofs.Stopping.{none_joined}
use Rattle.rx_top.proofs.group.play_group.Goals as goal

pub settle-requires : goal.settle-requires
settle-requires g c = λ t.
    let at = c.requires.at t in
    let group = c.in-Ok.gathered.0 in
    let adds = c.in-Ok.ensures.adds in (
      at.0,
      adds.0,
      more_due g.D.Disk c.args.disk.now c.args.engine.journal group.engine.journal at.0 [] adds.0
          (session_of c.args.engine).world (session_of group.engine).world
          (none_due g.D.Disk c.args.disk.now c.args.engine.journal at.0
          (session_of c.args.engine).world at.1) adds.1,
    )

pub returns-in-Err-clause-works : goal.returns-in-Err-clause-works
returns-in-Err-clause-works g c old left takes =
    none_works g.D.Disk g.K.Sink.tells (kinds_of c.args.handlers.now) c.args.next c.args.number old
    left c.gather.new.reader c.args.engine c.args.disk.now c.args.disk.now
    (g.K.Sink.written c.args.out.now) (g.K.Sink.written c.args.out.now) _ refl
    (λ t f. g.met.D.Disk.only_now c.args.disk.now f t) refl refl

pub returns-in-Err-clause-grows : goal.returns-in-Err-clause-grows
returns-in-Err-clause-grows g c t bodies at =
    none_grown_by g.D.Disk c.args.engine c.args.disk.now bodies at
    (λ f. g.met.D.Disk.only_now c.args.disk.now f t)

pub returns-in-Ok-settle-clause-works : goal.returns-in-Ok-settle-clause-works
returns-in-Ok-settle-clause-works g c old left takes =
    group_works g.D.Disk g.K.Sink.tells (kinds_of c.args.handlers.now) c.args.next c.args.number old
    left c.gather.new.reader c.args.engine c.args.disk.now c.settle.new.disk
    (g.K.Sink.written c.args.out.now) (g.K.Sink.written c.settle.new.out) c.in-Ok.gathered.0
    c.in-Ok.gathered.1 (c.in-Ok.ensures.gathers old left takes) c.in-Ok-settle.engine
    c.in-Ok-settle.ensures.settles _ refl refl refl refl

pub returns-in-Ok-settle-clause-grows : goal.returns-in-Ok-settle-clause-grows
returns-in-Ok-settle-clause-grows g c t bodies at =
    grown_by g.D.Disk g.K.Sink.tells c.args.engine c.in-Ok.gathered.0 c.args.disk.now
    c.settle.new.disk (g.K.Sink.written c.args.out.now) (g.K.Sink.written c.settle.new.out)
    c.in-Ok.ensures.adds.0 c.in-Ok.ensures.adds.1 (Ok c.in-Ok-settle.engine)
    c.in-Ok-settle.ensures.settles t bodies at _ refl

pub returns-in-Err-settle-clause-works : goal.returns-in-Err-settle-clause-works
returns-in-Err-settle-clause-works g c old left takes =
    group_failed g.D.Disk g.K.Sink.tells (kinds_of c.args.handlers.now) c.args.next c.args.number
    old left c.gather.new.reader c.args.engine c.args.disk.now c.settle.new.disk
    (g.K.Sink.written c.args.out.now) (g.K.Sink.written c.settle.new.out) c.in-Ok.gathered.0
    c.in-Ok.gathered.1 (c.in-Ok.ensures.gathers old left takes) c.in-Err-settle.cause
    c.in-Err-settle.ensures.settles c.in-Err-settle.ensures.cause.read

pub returns-in-Err-settle-clause-grows : goal.returns-in-Err-settle-clause-grows
returns-in-Err-settle-clause-grows g c t bodies at =
    grown_by g.D.Disk g.K.Sink.tells c.args.engine c.in-Ok.gathered.0 c.args.disk.now
    c.settle.new.disk (g.K.Sink.written c.args.out.now) (g.K.Sink.written c.settle.new.out)
    c.in-Ok.ensures.adds.0 c.in-Ok.ensures.adds.1 (Err c.in-Err-settle.cause)
    c.in-Err-settle.ensures.settles t bodies at _ refl

pub returns-in-Ok-settle-clause-limit : goal.returns-in-Ok-settle-clause-limit
returns-in-Ok-settle-clause-limit g c =
    c.in-Ok-settle.ensures.settles.limit ∙ c.in-Ok.ensures.adds.1.same_limit

pub returns-in-Ok-settle-clause-leads : goal.returns-in-Ok-settle-clause-leads
returns-in-Ok-settle-clause-leads g c = c.in-Ok.ensures.leads

-- ---- why it ended

pub returns-in-Err-clause-cause : goal.returns-in-Err-clause-cause
returns-in-Err-clause-cause g c =
    stop_cause g.K.Sink g.D.Disk never_read by_disk_or_memory c.args.out.now c.args.out.now
    c.args.disk.now c.args.disk.now (omega arith) (omega arith) Memory tt (λ is. cc)

pub returns-in-Ok-settle-clause-cause : goal.returns-in-Ok-settle-clause-cause
returns-in-Ok-settle-clause-cause g c =
    ok_cause g.K.Sink g.D.Disk never_read by_disk_or_memory c.args.out.now c.settle.new.out
    c.args.disk.now c.settle.new.disk c.in-Ok-settle.ensures.cause.sink_faults
    c.in-Ok-settle.ensures.cause.disk_faults _

pub returns-in-Err-settle-clause-cause : goal.returns-in-Err-settle-clause-cause
returns-in-Err-settle-clause-cause g c =
    later_cause g.K.Sink g.D.Disk never_read never_read by_disk by_disk_or_memory c.args.out.now
    c.args.out.now c.settle.new.out c.args.disk.now c.args.disk.now c.settle.new.disk
    (Err c.in-Err-settle.cause) (omega arith) (omega arith) (λ why so. so) or_memory
    (same_cause g.K.Sink g.D.Disk never_read by_disk c.args.out.now c.settle.new.out
    c.args.disk.now c.settle.new.disk c.in-Err-settle.cause c.in-Err-settle.ensures.cause)

-- ---- what was told

pub returns-in-Err-clause-told : goal.returns-in-Err-clause-told
returns-in-Err-clause-told g c told = none_joined (g.K.Sink.written c.args.out.now)

pub returns-in-Ok-settle-clause-told : goal.returns-in-Ok-settle-clause-told
returns-in-Ok-settle-clause-told g c told =
    group_joined (Ok c.in-Ok-settle.engine) c.in-Ok-settle.ensures.settles (λ f is. cc) told

pub returns-in-Err-settle-clause-told : goal.returns-in-Err-settle-clause-told
returns-in-Err-settle-clause-told g c told =
    group_joined (Err c.in-Err-settle.cause) c.in-Err-settle.ensures.settles
    c.in-Err-settle.ensures.cause.read told
