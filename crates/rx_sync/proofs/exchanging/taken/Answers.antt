use Rattle.std.proofs.Common.{◌∙◌, Some, ap}
use Rattle.rx_handler.specs.Shown.{kinds_of}
use Rattle.rx_world.specs.Holders.{world_in}
use Rattle.rx_sync.proofs.Calls.{taken_shown}
use Rattle.rx_sync.proofs.exchanging.taken.Goals as goal

pub returns-in_ok-record_list-in-Ok : goal.returns-in_ok-record_list-in-Ok
returns-in_ok-record_list-in-Ok g c =
    ap Some c.in_ok-record_list-in-Ok.ensures
    ∙ taken_shown (world_in g.H.Holder.held c.args.world.now) c.args.name.now
    (kinds_of c.args.handlers.now) c.requires.ready c.args.asked.now c.args.reply.now c.args.now
    c.in-Ok.record c.in-Ok.ensures.taken
