use Rattle.std.proofs.Common.{sym, subst}
use Rattle.std.specs.List.{AllByRecursion}
use Rattle.rx_session.specs.Placed.{world_of}
use Rattle.rx_session.specs.Session.{Session}
use Rattle.rx_session.specs.Streams.{AreStreamed, IsGoodFor}
use Rattle.rx_session.proofs.Streamed.{kept_streamed}
use Rattle.rx_session.proofs.playing.Playing.keep_events.Goals as goal

pub invariant_of-result : goal.invariant_of-result
invariant_of-result c =
    let i = c.self.inside in
    let name = c.args.name.now in
    let es = c.args.events.items in
    record {
      placed = c.self.invariant.placed;
      distinct = c.self.invariant.distinct;
      streamed = subst (AreStreamed (world_of i.world)) (sym c.in_ok-keep_queued.ensures)
          (kept_streamed (world_of i.world) name es
          (subst (λ (s : Session). AllByRecursion (IsGoodFor s.world name) es) (sym c.self.view_is)
          c.requires.good) i.streams.items c.self.invariant.streamed);
      quiet = c.self.invariant.quiet;
    }
