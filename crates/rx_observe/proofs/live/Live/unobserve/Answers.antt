use Rattle.std.proofs.Common.{sym, ap, ◌∙◌, subst}
use Rattle.rx_value.specs.Named.{named}
use Rattle.rx_observe.specs.Lived.{observing, IsWhole}
use Rattle.rx_observe.specs.Observing.{Observing, without, with_queries}
use Rattle.rx_observe.specs.Front.{AreFronts}
use Rattle.rx_observe.proofs.Beside.{no_fronts}
use Rattle.rx_observe.proofs.Emitting.{distinct_without, right_without, none_named}
use Rattle.rx_observe.proofs.live.Live.unobserve.Goals as goal

pub invariant_of-self : goal.invariant_of-self
invariant_of-self c =
    let i = c.self.inside in
    let fronts = c.clear.new.self.items in
    λ whole. let kept = c.self.invariant whole in
    subst (λ qs. IsWhole i.collection qs fronts i.indexes.items) (sym c.remove_query.ensures)
    (record {
      names = distinct_without i.queries.items c.args.name.now kept.names;
      right = right_without i.collection c.args.name.now i.queries.items kept.right;
      fronts = subst (AreFronts i.collection (without c.args.name.now i.queries.items))
          (sym c.clear.ensures.items)
          (no_fronts i.collection (without c.args.name.now i.queries.items));
      indexed = kept.indexed;
    })

pub returns-clause-value : goal.returns-clause-value
returns-clause-value c =
    ap (with_queries (observing c.self.inside)) c.remove_query.ensures
    ∙ ap (λ (o : Observing). with_queries o (without c.args.name.now o.queries)) c.self.view_is

pub returns-clause-gone : goal.returns-clause-gone
returns-clause-gone c =
    ap (λ qs. named qs c.args.name.now) c.remove_query.ensures
    ∙ none_named c.args.name.now c.self.inside.queries.items
