use Rattle.std.proofs.Common.{ap, is_err}
use Rattle.rx_journal.proofs.Shutting.{leaves_shut, shut_or_failed, still_within}
use Rattle.rx_journal.proofs.durable.open_gate.Goals as goal

-- a search for these takes long
pub write_at-requires : goal.write_at-requires
write_at-requires g c = λ told.
    let mid = c.write_durably.new.disk in
    still_within g.D.Disk c.args.disk.now mid _ (c.write_durably.ensures.moments told)
    (λ t f le now. g.met.D.Disk.counts_now mid t f told le now) (g.met.D.Disk.reads_as mid told)
    (c.requires.within told)

pub returns-in-Err-clause-shut : goal.returns-in-Err-clause-shut
returns-in-Err-clause-shut g c = λ told.
    let mid = c.write_durably.new.disk in
    shut_or_failed g.D.Disk c.args.disk.now mid _ (c.write_durably.ensures.moments told)
    (λ t f le now. g.met.D.Disk.counts_now mid t f told le now) (g.met.D.Disk.reads_as mid told)
    c.write_at.new.self c.write_at.result
    (c.write_durably.ensures.cause.failed (ap is_err c.in-Err.is))
    (c.write_at.ensures.written told) c.write_at.ensures.cause

pub returns-in-Err-clause-moments : goal.returns-in-Err-clause-moments
returns-in-Err-clause-moments g c = λ told.
    let mid = c.write_durably.new.disk in
    leaves_shut g.D.Disk c.args.disk.now mid _ (c.write_durably.ensures.moments told)
    (λ t f le now. g.met.D.Disk.counts_now mid t f told le now) (g.met.D.Disk.reads_as mid told)
    c.write_at.new.self (c.write_at.ensures.crash told) (c.write_at.ensures.time told)
