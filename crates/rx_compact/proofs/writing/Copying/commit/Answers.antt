use Rattle.std.proofs.Common.{sym, subst, refl, List, append-nil, rules}
use Rattle.rx_disk.specs.Moments.{LeavesOnly}
use Rattle.rx_record.specs.Content.{Content}
use Rattle.rx_compact.specs.Writing.{HasWritten, IsFront}
use Rattle.rx_compact.proofs.Staging.{committed, committed_moments}
use Rattle.rx_compact.proofs.writing.Copying.commit.Goals as goal

pub returns-in-Ok-clause-adds : goal.returns-in-Ok-clause-adds
returns-in-Ok-clause-adds g c =
    let d = g.D.Disk in
    let old = c.args.disk.now in
    let new = c.commit.new.disk in
    record {
      written = λ told first cs had.
          subst (HasWritten d first new _) (sym (append-nil cs))
          (committed d first old new c.args.self cs had
          (c.commit.ensures.moments told had.bodies had.more had.staged)
          (c.commit.ensures.header told had.bodies had.more had.staged) _ refl
          (c.in-Ok.ensures.added told had.bodies had.more had.staged)
          (λ t left le now. g.met.D.Disk.counts_now new t left told le now)
          (g.met.D.Disk.reads_as new told));
      moments = λ told first cs had.
          subst (λ (l : List Content). LeavesOnly d first new (IsFront l)) (sym (append-nil cs))
          (committed_moments d first old new c.args.self cs had
          (c.commit.ensures.moments told had.bodies had.more had.staged)
          (c.commit.ensures.header told had.bodies had.more had.staged));
      full = λ told first cs had would most is. absurd (cc);
      limit = c.in-Ok.ensures.limit;
      not_journal = λ is. absurd (cc);
      cause = record { later = c.commit.ensures.cause.later; failed = λ is. absurd (cc) };
    }

pub returns-in-Err-clause-adds : goal.returns-in-Err-clause-adds
returns-in-Err-clause-adds g c =
    let d = g.D.Disk in
    let old = c.args.disk.now in
    let new = c.commit.new.disk in
    record {
      written = λ told first cs had. tt;
      moments = λ told first cs had.
          subst (λ (l : List Content). LeavesOnly d first new (IsFront l)) (sym (append-nil cs))
          (committed_moments d first old new c.args.self cs had
          (c.commit.ensures.moments told had.bodies had.more had.staged)
          (c.commit.ensures.header told had.bodies had.more had.staged));
      full = λ told first cs had would most is. absurd (cc);
      limit = tt;
      not_journal = λ is. absurd (cc);
      cause = record {
        later = c.commit.ensures.cause.later;
        failed = λ is. c.commit.ensures.cause.failed (search rules);
      };
    }
