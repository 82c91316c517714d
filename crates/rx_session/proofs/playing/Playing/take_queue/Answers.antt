use Rattle.std.proofs.Common.{sym, subst}
use Rattle.rx_session.specs.Placed.{world_of}
use Rattle.rx_session.specs.Streams.{AreStreamed}
use Rattle.rx_session.proofs.Streamed.{emptied_streamed}
use Rattle.rx_session.proofs.playing.Playing.take_queue.Goals as goal

pub invariant_of-playing : goal.invariant_of-playing
invariant_of-playing c =
    let i = c.self.inside in
    record {
      placed = c.self.invariant.placed;
      distinct = c.self.invariant.distinct;
      streamed = subst (AreStreamed (world_of i.world)) (sym c.take_queued-events.ensures.streams)
          (emptied_streamed
          (world_of i.world) c.args.name.now i.streams.items c.self.invariant.streamed);
      quiet = c.self.invariant.quiet;
    }
