use Rattle.std.proofs.Common.{◌∙◌, Some, sym, ap}
use Rattle.rx_engine.proofs.Streamable.{streamable}
use Rattle.rx_engine.proofs.streams.stream_line.Goals as goal

-- its master is the replication's
pub returns-clause-may : goal.returns-clause-may
returns-clause-may c =
    streamable c.args.session.now.world c.requires.sound c.args.name c.in_ok-master.master
    c.in_ok-replication.replication.now c.in_ok-replication.ensures.held
    c.in_ok-replication.ensures.linked
    (sym c.in-Some.ensures ∙ ap Some (sym c.in_ok-master.ensures))
