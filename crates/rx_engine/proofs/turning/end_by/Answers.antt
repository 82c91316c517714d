use Rattle.std.proofs.Common.{Some, ap, sym}
use Rattle.rx_reply.specs.declared.turn.Exchanged.{Exchanged}
use Rattle.rx_sync.specs.Turn.{end_by}
use Rattle.rx_engine.proofs.turning.end_by.Goals as goal

pub returns-in-Pushed : goal.returns-in-Pushed
returns-in-Pushed c =
    sym (ap (λ (e : Exchanged). end_by c.args.batch (Some e)) c.in-Pushed.is)
