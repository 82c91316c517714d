use Rattle.std.proofs.Common.{◌≡◌, Some, refl, sym, ap, ◌∙◌, subst}
use Rattle.rx_query.specs.QuerySpec.{asked}
use Rattle.rx_value.specs.Named.{named}
use Rattle.rx_observe.specs.Front.{IsFront}
use Rattle.rx_observe.specs.Lived.{observing, IsWhole}
use Rattle.rx_observe.specs.Observing.{Observing, new_watch, and_query, with_queries}
use Rattle.rx_observe.specs.Watched.{Watched, cold, IsRight}
use Rattle.rx_observe.proofs.Beside.{one_past, one_more}
use Rattle.rx_observe.proofs.Emitting.{right_more, distinct_more}
use Rattle.rx_observe.proofs.Fronts.{nothing_kept}
use Rattle.rx_observe.proofs.live.Live.observe.Goals as goal

pub rows_of-requires-clause-front : goal.rows_of-requires-clause-front
rows_of-requires-clause-front c =
    let documents = c.self.inside.collection.documents in
    let q = asked c.args.query in
    subst (IsFront q documents) (sym c.none-front.ensures) (nothing_kept q documents)

-- a front past the queries is none of any
pub invariant_of-self-in_err-push-2 : goal.invariant_of-self-in_err-push-2
invariant_of-self-in_err-push-2 c =
    let i = c.self.inside in
    let f = c.rows_of.new.front in
    let long = c.in_ok-align.ensures.length ∙ c.len.ensures ∙ i.queries.ok.0 in
    λ whole. let kept = c.self.invariant whole in
    subst (λ qs. IsWhole i.collection qs c.push.new.self.items i.indexes.items)
    (sym c.in_err-push-2.ensures.items)
    (subst (λ fs. IsWhole i.collection i.queries.items fs i.indexes.items)
    (sym c.in_ok-push.ensures.items) (record {
      names = kept.names;
      right = kept.right;
      fronts = one_past i.collection i.queries.items c.align.new.fronts.items f long
          (c.in_ok-align.ensures.kept i.collection i.queries.items kept.fronts);
      indexed = kept.indexed;
    }))

pub invariant_of-self-2 : goal.invariant_of-self-2
invariant_of-self-2 c =
    let i = c.self.inside in
    let f = c.rows_of.new.front in
    let w = c.fill.new.self in
    let none = c.new-observed.ensures ∙ ap cold c.in_ok-rows.ensures.query in
    let is : w ≡ new_watch (asked c.args.query) i.collection.documents = c.fill.ensures
    ∙ (λ k. record {
      query = (none k).query;
      rows = Some (c.in_ok-rows.ensures.rows k);
      emitted = (none k).emitted;
      counts = (none k).counts;
    }) in
    let keyed = c.requires.keyed
    ∙ ap (λ (o : Observing). o.collection.schema.primary) (sym c.self.view_is) in
    let new = c.requires.new in
    let long = c.in_ok-align.ensures.length ∙ c.len.ensures ∙ i.queries.ok.0 in
    λ whole. let kept = c.self.invariant whole in
    subst (λ qs. IsWhole i.collection qs c.push.new.self.items i.indexes.items)
    (sym c.in_ok-push-2.ensures.items)
    (subst (λ fs. IsWhole i.collection (and_query i.queries.items c.args.name w) fs i.indexes.items)
    (sym c.in_ok-push.ensures.items) (record {
      names = distinct_more i.queries.items c.args.name w kept.names
          (ap (λ (o : Observing). named o.queries c.args.name) c.self.view_is ∙ new);
      right = right_more i.collection i.queries.items c.args.name w kept.right
          (subst (IsRight i.collection) (sym is) (record {
            limited = c.args.query.limited;
            keyed = keyed;
            from_scratch = refl;
          }));
      fronts = one_more i.collection i.queries.items c.align.new.fronts.items c.args.name w f long
          (subst (λ (v : Watched). IsFront v.query i.collection.documents f) (sym is)
          c.in_ok-rows.ensures.front)
          (c.in_ok-align.ensures.kept i.collection i.queries.items kept.fronts);
      indexed = kept.indexed;
    }))

pub returns-clause-ok : goal.returns-clause-ok
returns-clause-ok c =
    let i = c.self.inside in
    let none = c.new-observed.ensures ∙ ap cold c.in_ok-rows.ensures.query in
    let is : c.fill.new.self ≡ new_watch (asked c.args.query) i.collection.documents =
    c.fill.ensures
    ∙ (λ k. record {
      query = (none k).query;
      rows = Some (c.in_ok-rows.ensures.rows k);
      emitted = (none k).emitted;
      counts = (none k).counts;
    }) in
    ap (with_queries (observing i))
    (c.in_ok-push-2.ensures.items ∙ ap (and_query i.queries.items c.args.name) is)
    ∙ ap (λ (o : Observing). with_queries o (and_query o.queries c.args.name
    (new_watch (asked c.args.query) o.collection.documents))) c.self.view_is
