use Rattle.std.proofs.Common.{sym, subst}
use Rattle.rx_observe.specs.Front.{AreFronts}
use Rattle.rx_observe.specs.Observing.{Observing, AllRight}
use Rattle.rx_observe.proofs.Beside.{no_fronts}
use Rattle.rx_observe.proofs.live.Live.adopt.Goals as goal

pub invariant_of-self : goal.invariant_of-self
invariant_of-self c = λ whole.
    let i = c.self.inside in
    let queries = c.args.queries.items in
    record {
      names = c.requires.names;
      right = subst (λ (o : Observing). AllRight o.collection queries) (sym c.self.view_is)
          c.requires.right;
      fronts = subst (AreFronts i.collection queries) (sym c.clear.ensures.items)
          (no_fronts i.collection queries);
      indexed = (c.self.invariant whole).indexed;
    }
