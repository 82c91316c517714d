use Rattle.std.specs.Prelude.{⊤}
use Rattle.std.specs.Result.{result_err}
use Rattle.rx_engine.specs.Opening.{host_of, opened}
use Rattle.rx_trial.specs.Lines.{script}
use Rattle.rx_top.specs.Hears.{stands}
use Rattle.rx_top.proofs.Told as by
use Rattle.rx_top.proofs.Tried as tried
use Rattle.rx_top.proofs.trial.trial.Goals as goal

pub returns : goal.returns
returns g c =
    let played = c.open_and_play-told in
    let told = played.result in
    let d = g.D.Disk in
    let old = c.args.disk.now in
    let new = played.new.disk in
    let tells = g.K.Sink.tells in
    let f0 = g.K.Sink.faults c.args.out.now in
    let f1 = g.K.Sink.faults c.tell.new.out in
    let w0 = g.K.Sink.written c.args.out.now in
    let w1 = g.K.Sink.written c.tell.new.out in
    let status = c.tell.result in
    let host = host_of c.args.handlers.now c.args.hooks.now in
    let plays = played.ensures.plays in
    let heard = plays.0 in
    let somewhere = plays.1.somewhere in
    let wires = g.N.W.Wire.tells in
    let n0 = stands g.N.Dial c.args.dial.now in
    let n1 = stands g.N.Dial played.new.dial in
    let limit = c.args.limit in
    let lines = script c.args.seed c.args.count in
    record {
      tries = (
        heard,
        record {
          stop = result_err told;
          headline = λ t bodies w start.
              let does = plays.1.found t bodies w start in
              tried.has_tried wires n0 n1 tells f0 f1 w0 w1 status told lines (opened host heard w)
              (tried.KeepsTrial host heard wires d old new bodies w limit (result_err told)) does.0
              does.1 c.tell.ensures.told;
          over_any_disk = (
            somewhere.0,
            tried.has_tried wires n0 n1 tells f0 f1 w0 w1 status told lines
                (opened host heard somewhere.0) (λ done rest. ⊤) somewhere.1.0 somewhere.1.1
                c.tell.ensures.told,
          );
          legal = λ t bodies w start.
              tried.stays_legal host heard wires d old new bodies w limit (result_err told) lines
              (plays.1.found t bodies w start).0;
          illegal = played.ensures.illegal;
          cause = by.cause_of d old new told played.ensures.cause played.ensures.not_journal;
          stood = λ t. by.stood_by told _ (played.ensures.stood t) (played.ensures.full_stood t);
          counts = (
            c.tell.ensures.sink_faults,
            played.ensures.cause.later,
            played.ensures.dial_faults,
          );
        },
      );
    }
