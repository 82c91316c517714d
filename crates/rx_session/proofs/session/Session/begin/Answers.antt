use Rattle.std.proofs.Common.{sym, subst}
use Rattle.rx_world.specs.Holders.{holders_in}
use Rattle.rx_session.specs.Emissions.{IsSettled}
use Rattle.rx_session.specs.Placed.{AreQuietUnless, queries_of, world_of}
use Rattle.rx_session.proofs.Settling.{is_settled}
use Rattle.rx_session.proofs.session.Session.begin.Goals as goal

pub invariant_of-result : goal.invariant_of-result
invariant_of-result c =
    let i = c.self.inside in
    record {
      placed = c.self.invariant.placed;
      distinct = c.self.invariant.distinct;
      streamed = c.self.invariant.streamed;
      quiet = subst (λ written. AreQuietUnless written (world_of i.world)
          (queries_of (holders_in i.world) i.places.items))
          (sym c.new.ensures.items) c.self.invariant.quiet;
    }

pub returns-clause-before : goal.returns-clause-before
returns-clause-before c = subst IsSettled c.self.view_is (is_settled c.self.inside c.self.invariant)
