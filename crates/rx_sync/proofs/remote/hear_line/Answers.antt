use Rattle.rx_handler.specs.Shown.{kinds_of}
use Rattle.rx_world.specs.Holders.{world_in}
use Rattle.rx_sync.proofs.Elsewhere.{read_lawful_in}
use Rattle.rx_sync.proofs.remote.hear_line.Goals as goal

pub take_heard-requires-clause-reply : goal.take_heard-requires-clause-reply
take_heard-requires-clause-reply g c =
    read_lawful_in (world_in g.H.Holder.held c.args.world.now) c.args.name.now
    (kinds_of c.args.handlers.now) c.requires.ready c.fork_schema.result.now c.fork_schema.ensures
    c.in-Ok.reply c.in-Ok.ensures.lawful
