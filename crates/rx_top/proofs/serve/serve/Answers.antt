use Rattle.std.proofs.Common.{subst, ℕ, List, arith}
use Rattle.std.specs.Prelude.{⊤, Option}
use Rattle.rx_host.specs.Keeping.{Keeps}
use Rattle.rx_host.specs.Moments.{GivesMoments}
use Rattle.rx_host.specs.Outside.{Outside, told_by}
use Rattle.rx_outside.specs.declared.stop.Stop.{Stop}
use Rattle.rx_serve.specs.Answered.{Commits}
use Rattle.rx_top.specs.Serve.{served_words}
use Rattle.rx_top.specs.ServesCollection.{HasServeCause}
use Rattle.rx_top.specs.Stops.{EndsWith}
use Rattle.rx_top.proofs.ServeEnds as by
use Rattle.rx_top.proofs.ServedCauses.{cause_then}
use Rattle.rx_top.proofs.Stopping.{ended_with, ends_later}
use Rattle.rx_top.proofs.serve.serve.Goals as goal

pub returns : goal.returns
returns g c =
    let step = c.open_and_serve-ended in
    let name = c.args.offer.now.collection.now in
    let connections = c.args.offer.now.connections in
    let wires = g.L.W.Wire.tells in
    let sink = g.K.Sink.tells in
    let disk0 = c.args.disk.now in
    let disk2 = step.new.disk in
    let w1 = g.K.Sink.written step.new.out in
    let port = c.args.offer.now.port in
    let old : Outside = told_by g.L.Listen g.K.Sink c.args.door.now c.args.out.now in
    let mid : Outside = told_by g.L.Listen g.K.Sink step.new.door step.new.out in
    let given : List ℕ → Type 0 = λ moments. g.C.Clock.tells
    → GivesMoments (g.C.Clock.given c.args.clock.now) (g.C.Clock.given step.new.clock) moments in
    let keeps : List (List ℕ) → Option Stop → Commits → Commits → Type 0 =
    λ bodies stop sure more. Keeps g.D.Disk disk0 disk2 bodies name c.args.limit sure more stop in
    record {
      serves = record {
        ended = step.result;
        is_status = c.status_of.ensures;
        headline = λ t bodies w start. record {
          before = w1;
          served = step.ensures.serves t bodies w start;
          line = line;
        };
        over_any_disk = (
          step.ensures.over_any_disk.0,
          record { before = w1; served = step.ensures.over_any_disk.1; line = line },
        );
        legal = step.ensures.legal;
        illegal = step.ensures.illegal;
        opened = by.opens_by wires sink name port connections step.ensures.over_any_disk.0 old given
            (λ why sure more. ⊤) step.result mid step.ensures.over_any_disk.1;
        cause = cause_then g.K.Sink g.D.Disk g.L.Listen disk0 disk2 c.args.door.now step.new.door
            c.args.clock.now step.new.clock c.args.out.now step.new.out c.write_halt.new.out
            step.ensures.counts.sink c.write_halt.ensures.count step.result step.ensures.cause;
        stood = step.ensures.stood;
        full = λ would most is t bodies w start.
            let full = step.ensures.full would most is t bodies w start in (
              full.0,
              full.1,
              full.2,
              full.3,
            );
        not_served = λ t bodies w start none.
            by.only_unserved wires sink name port connections w old mid given (keeps bodies)
            (λ would most k.
            by.none_full g.D.Disk disk0 disk2 bodies name c.args.limit would most k)
            step.result
            (λ refused. (subst (HasServeCause g.K.Sink g.D.Disk g.L.Listen c.args.out.now
            step.new.out disk0 disk2 c.args.door.now step.new.door c.args.clock.now step.new.clock)
            refused step.ensures.cause).0 t bodies w start.legal)
            (step.ensures.serves t bodies w start) none;
        counts = record {
          door = step.ensures.counts.door;
          disk = step.ensures.counts.disk;
          sink = omega (arith, step.ensures.counts.sink, c.write_halt.ensures.count);
        };
      };
    }
  where
    line : EndsWith g.K.Sink.tells (g.K.Sink.faults c.args.out.now)
        (g.K.Sink.faults c.write_halt.new.out) (g.K.Sink.written c.open_and_serve-ended.new.out)
        (g.K.Sink.written c.write_halt.new.out) (served_words c.open_and_serve-ended.result)
    line =
        ends_later g.K.Sink.tells (g.K.Sink.faults c.args.out.now)
        (g.K.Sink.faults c.open_and_serve-ended.new.out) (g.K.Sink.faults c.write_halt.new.out) _ _
        (served_words c.open_and_serve-ended.result)
        c.open_and_serve-ended.ensures.counts.sink
        (ended_with g.K.Sink.tells (g.K.Sink.faults c.open_and_serve-ended.new.out)
        (g.K.Sink.faults c.write_halt.new.out) _ _ (served_words c.open_and_serve-ended.result)
        c.write_halt.result c.write_halt.ensures.ok c.write_halt.ensures.err
        c.write_halt.ensures.failed)
