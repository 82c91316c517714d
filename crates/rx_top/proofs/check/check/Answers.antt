use Rattle.std.proofs.Common.{◌≡◌, Some, ℕ, List}
use Rattle.std.specs.Result.{result_err}
use Rattle.rx_outside.specs.declared.stop.Stop.TheVariants.{Full}
use Rattle.rx_top.specs.Tells.{TellsText}
use Rattle.rx_top.proofs.Told as by
use Rattle.rx_top.proofs.check.check.Goals as goal

pub returns : goal.returns
returns g c =
    let told = c.check-told.result in
    let tells = g.K.Sink.tells in
    let f0 = g.K.Sink.faults c.args.out.now in
    let f1 = g.K.Sink.faults c.tell.new.out in
    let w0 = g.K.Sink.written c.args.out.now in
    let w1 = g.K.Sink.written c.tell.new.out in
    let status = c.tell.result in
    let P : List ℕ → Type 0 = λ report. TellsText tells f0 f1 w0 w1 status report in
    let never : (would limit : ℕ) → result_err told ≡ Some (Full would limit) → ⊥ =
    λ would limit is. c.check-told.ensures.no_full would limit
    (by.was_err told (Full would limit) is) in
    record {
      reports = record {
        stop = result_err told;
        never_full = never;
        report = λ is.
            let wrote = by.told_text tells f0 f1 w0 w1 status told is c.tell.ensures.told in
            record {
              here = λ t bodies w legal.
                  by.of_text told P _ is (c.check-told.ensures.report t bodies w legal) wrote;
              somewhere = by.of_report told P is c.check-told.ensures.somewhere wrote;
            };
        stopped = by.told_stop tells f0 f1 w0 w1 status told c.tell.ensures.told;
        cause = by.cause_of g.D.Disk c.args.disk.now c.check-told.new.disk told
            c.check-told.ensures.cause c.check-told.ensures.not_journal;
        stood = λ is t. by.ok_so told _ is (c.check-told.ensures.stood t);
        untouched = c.check-told.ensures.untouched;
        only_reads = c.check-told.ensures.only_reads;
        counts = (c.tell.ensures.sink_faults, c.check-told.ensures.cause.later);
      };
    }
