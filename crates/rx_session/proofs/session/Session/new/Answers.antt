use Rattle.std.proofs.Common.{[], sym, subst}
use Rattle.rx_world.specs.Holders.{holders_in}
use Rattle.rx_session.specs.Placed.{ArePlaced, AreQuietUnless, queries_of, world_of}
use Rattle.rx_session.specs.Streams.{AreStreamed}
use Rattle.rx_session.proofs.Places.{bare_placed}
use Rattle.rx_session.proofs.session.Session.new.Goals as goal

pub invariant_of-result : goal.invariant_of-result
invariant_of-result c =
    let ls = holders_in c.args.world in
    let w = world_of c.args.world in
    record {
      placed = subst (λ ps. ArePlaced ls ps (queries_of ls ps)) (sym c.new-3.ensures.items)
          (bare_placed ls c.requires.unwatched);
      distinct = c.requires.distinct;
      streamed = subst (AreStreamed w) (sym c.new-2.ensures.items) tt;
      quiet = subst (λ ps. AreQuietUnless [] w (queries_of ls ps)) (sym c.new-3.ensures.items) tt;
    }
