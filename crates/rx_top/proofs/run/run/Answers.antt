use Rattle.std.proofs.Common.{◌≡◌, refl, ◌∙◌, Bool, Result, Ok, Err, OnOk, ℕ, List, [], sym, subst, append-nil, arith}
use Rattle.std.specs.Prelude.{codes}
use Rattle.rx_outside.specs.declared.stop.Stop.TheVariants.{Disk, NotJournal, Full, Memory}
use Rattle.rx_top.specs.PlaysScript.{HasRunCause}
use Rattle.rx_top.specs.Stops.{EndsWith, last_words, stop_line}
use Rattle.rx_top.specs.declared.early_end.EarlyEnd.{EarlyEnd}
use Rattle.rx_top.specs.declared.early_end.EarlyEnd.TheVariants.{Read, Sink, Work}
use Rattle.rx_top.specs.declared.early_end.ReadFault.TheVariants as fault
use Rattle.rx_top.proofs.Stopping.{ended_with, ends_later, rises_still, stops_told}
use Rattle.rx_top.proofs.run.run.Goals as goal

pub returns : goal.returns
returns g c =
    let step = c.open_and_play-ended in
    record {
      plays = (
        step.ensures.run.0,
        record {
          ended = step.result;
          is_status = c.status_of.ensures;
          line = λ told.
              let had = step.ensures.told told in (
                had.0,
                subst (λ (bs : List ℕ). EndsWith g.K.Sink.tells (g.K.Sink.faults c.args.out.now)
                    (g.K.Sink.faults c.write_end.new.out) bs
                    (g.K.Sink.written c.write_end.new.out) (last_words step.result)) had.1 line,
              );
          headline = λ told t bodies w start. record {
            before = g.K.Sink.written step.new.out;
            run = (step.ensures.run.1 told).found t bodies w start;
            line = line;
          };
          over_any_disk = λ told.
              let somewhere = (step.ensures.run.1 told).somewhere in (
                somewhere.0,
                record {
                  before = g.K.Sink.written step.new.out;
                  run = somewhere.1;
                  line = line;
                },
              );
          legal = step.ensures.legal;
          illegal = step.ensures.illegal;
          cause = cause_of step.result refl;
          stood = step.ensures.stood;
          within = step.ensures.takes.within;
          counts = (
            step.ensures.counts.0,
            omega (arith, step.ensures.cause.sink_faults, c.write_end.ensures.count),
            step.ensures.cause.disk_faults,
            step.ensures.counts.1,
          );
        },
      );
    }
  where
    line : EndsWith g.K.Sink.tells (g.K.Sink.faults c.args.out.now)
        (g.K.Sink.faults c.write_end.new.out) (g.K.Sink.written c.open_and_play-ended.new.out)
        (g.K.Sink.written c.write_end.new.out) (last_words c.open_and_play-ended.result)
    line =
        ends_later g.K.Sink.tells (g.K.Sink.faults c.args.out.now)
        (g.K.Sink.faults c.open_and_play-ended.new.out) (g.K.Sink.faults c.write_end.new.out) _ _
        (last_words c.open_and_play-ended.result)
        c.open_and_play-ended.ensures.cause.sink_faults
        (ended_with g.K.Sink.tells _ _ _ _ (last_words c.open_and_play-ended.result)
        c.write_end.result c.write_end.ensures.ok c.write_end.ensures.err
        c.write_end.ensures.failed)

    cause_of : (e : Result Bool EarlyEnd) → c.open_and_play-ended.result ≡ e
        → HasRunCause g.S.Source g.K.Sink g.D.Disk c.args.source.now
        c.open_and_play-ended.new.source c.args.out.now c.write_end.new.out c.args.disk.now
        c.open_and_play-ended.new.disk e
    cause_of (Ok refused) is = λ told.
        subst (λ (e : Result Bool EarlyEnd).
        OnOk e (g.S.Source.left c.open_and_play-ended.new.source ≡ [])) is
        (c.open_and_play-ended.ensures.takes.whole told)
    cause_of (Err (Read fault.Failed)) is =
        c.open_and_play-ended.ensures.cause.read fault.Failed is
    cause_of (Err (Read fault.TooLong)) is = tt
    cause_of (Err (Read fault.Memory)) is = tt
    cause_of (Err Sink) is =
        rises_still (g.K.Sink.faults c.args.out.now) (g.K.Sink.faults c.open_and_play-ended.new.out)
        (g.K.Sink.faults c.write_end.new.out) c.open_and_play-ended.ensures.cause.sink_faults
        c.write_end.ensures.count (c.open_and_play-ended.ensures.cause.sink is)
    cause_of (Err (Work Disk)) is = c.open_and_play-ended.ensures.cause.disk is
    cause_of (Err (Work NotJournal)) is = λ t.
        let unopened = c.open_and_play-ended.ensures.cause.stop NotJournal is t in
        record {
          illegal = unopened.illegal;
          unread = unopened.unread;
          line = stops_told g.K.Sink.tells (g.K.Sink.faults c.args.out.now)
              (g.K.Sink.faults c.args.out.now) (g.K.Sink.faults c.write_end.new.out)
              (g.K.Sink.written c.args.out.now)
              (g.K.Sink.written c.open_and_play-ended.new.out)
              (g.K.Sink.written c.write_end.new.out)
              [] (stop_line (codes "not_journal")) (omega arith)
              (λ k. unopened.unsaid k ∙ sym (append-nil (g.K.Sink.written c.args.out.now)))
              (subst (λ (e : Result Bool EarlyEnd). EndsWith g.K.Sink.tells
              (g.K.Sink.faults c.args.out.now) (g.K.Sink.faults c.write_end.new.out)
              (g.K.Sink.written c.open_and_play-ended.new.out)
              (g.K.Sink.written c.write_end.new.out)
              (last_words e)) is line);
        }
    cause_of (Err (Work (Full would most))) is = tt
    cause_of (Err (Work Memory)) is = tt
