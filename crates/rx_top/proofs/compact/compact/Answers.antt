use Rattle.std.proofs.Common.{◌≡◌, ◌∙◌, ap, inl, inr, refl, subst, ℕ, None, Some, Err, IsErrOf}
use Rattle.rx_compact.specs.Plan.{plan}
use Rattle.rx_compact.specs.Writing.{IsPast}
use Rattle.rx_compact.specs.declared.compacting.CompactFault.{CompactFault}
use Rattle.rx_compact.specs.declared.compacting.CompactFault.TheVariants.{Epoch, Exists, Stopped}
use Rattle.rx_outside.specs.declared.stop.Stop.TheVariants.{Disk, NotJournal, Full, Memory}
use Rattle.rx_top.specs.CopiesJournal.{HasCopyCause, fault_words, made_line}
use Rattle.rx_top.proofs.Stopping.{ended_with}
use Rattle.rx_top.proofs.compact.compact.Goals as goal

pub returns-in-Ok-write_made : goal.returns-in-Ok-write_made
returns-in-Ok-write_made g c =
    let made = c.in-Ok.made in
    record {
      copies = record {
        fault = None;
        copied = λ is. (
          made_line made.copied.end made.from made.copied.records,
          inl (refl, c.in-Ok-write_made.ensures.ok),
          λ d e empty bodies w legal.
              let both = c.in-Ok.ensures.copied d e empty bodies w legal in
              record {
                made = made.copied;
                is_copied = both.0;
                told = ap (λ (n : ℕ). made_line made.copied.end n made.copied.records) both.1;
              },
        );
        stopped = tt;
        cause = tt;
        moments = c.compact.ensures.moments;
        untouched = c.compact.ensures.untouched;
        kept = c.compact.ensures.kept;
        counts = (
          c.write_made.ensures.count,
          c.compact.ensures.disk_faults,
          c.compact.ensures.copy_faults,
        );
      };
    }

pub returns-in-Err-write_made : goal.returns-in-Err-write_made
returns-in-Err-write_made g c =
    let made = c.in-Ok.made in
    record {
      copies = record {
        fault = None;
        copied = λ is. (
          made_line made.copied.end made.from made.copied.records,
          inr (refl, c.in-Err-write_made.ensures.failed, c.in-Err-write_made.ensures.err),
          λ d e empty bodies w legal.
              let both = c.in-Ok.ensures.copied d e empty bodies w legal in
              record {
                made = made.copied;
                is_copied = both.0;
                told = ap (λ (n : ℕ). made_line made.copied.end n made.copied.records) both.1;
              },
        );
        stopped = tt;
        cause = tt;
        moments = c.compact.ensures.moments;
        untouched = c.compact.ensures.untouched;
        kept = c.compact.ensures.kept;
        counts = (
          c.write_made.ensures.count,
          c.compact.ensures.disk_faults,
          c.compact.ensures.copy_faults,
        );
      };
    }

pub returns-in-Err : goal.returns-in-Err
returns-in-Err g c =
    let fault = c.in-Err.fault in
    record {
      copies = record {
        fault = Some fault;
        copied = λ is. cc;
        stopped = (
          c.fault_status.ensures,
          ended_with g.K.Sink.tells (g.K.Sink.faults c.args.out.now)
              (g.K.Sink.faults c.write_fault.new.out) (g.K.Sink.written c.args.out.now)
              (g.K.Sink.written c.write_fault.new.out) (fault_words fault) c.write_fault.result
              c.write_fault.ensures.ok c.write_fault.ensures.err c.write_fault.ensures.failed,
        );
        cause = cause_of fault refl;
        moments = c.compact.ensures.moments;
        untouched = c.compact.ensures.untouched;
        kept = c.compact.ensures.kept;
        counts = (
          c.write_fault.ensures.count,
          c.compact.ensures.disk_faults,
          c.compact.ensures.copy_faults,
        );
      };
    }
  where
    was : (f : CompactFault) → c.in-Err.fault ≡ f → IsErrOf c.compact.result f
    was f same = c.in-Err.is ∙ ap Err same

    cause_of : (f : CompactFault) → c.in-Err.fault ≡ f
        → HasCopyCause g.D.Disk g.E.Disk c.args.limit c.args.disk.now c.compact.new.disk
        c.args.copy.now c.compact.new.copy f
    cause_of Exists same = λ e. c.compact.ensures.exists e (was Exists same)
    cause_of Epoch same = (
      c.compact.ensures.unmade (inl (was Epoch same)),
      λ d. c.compact.ensures.epoch d (was Epoch same),
    )
    cause_of (Stopped Disk) same = c.compact.ensures.disk_fault (was (Stopped Disk) same)
    cause_of (Stopped NotJournal) same = (
      c.compact.ensures.unmade (inr (was (Stopped NotJournal) same)),
      λ d. c.compact.ensures.not_journal d (was (Stopped NotJournal) same),
    )
    cause_of (Stopped (Full would most)) same = λ d e empty bodies w legal.
        let past = c.compact.ensures.full d e empty bodies w legal would most
        (was (Stopped (Full would most)) same) in
        (past.0, subst (IsPast (plan w) would) past.0 past.1)
    cause_of (Stopped Memory) same = tt
