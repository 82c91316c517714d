use Rattle.std.proofs.Common.{◌∙◌, sym, ap, map}
use Rattle.rx_session.specs.Doing.{stream_after}
use Rattle.rx_session.specs.Placed.{world_of}
use Rattle.rx_session.proofs.Streamed.{all_stay}
use Rattle.rx_session.proofs.streaming.follow_written.Goals as goal

pub returns-in-None : goal.returns-in-None
returns-in-None c =
    let w = world_of c.args.world.now in
    let sts = c.args.streams.items in
    sym (ap (λ o. map (stream_after w o) sts) c.in-None.is ∙ all_stay w sts)
