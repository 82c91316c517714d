use Rattle.std.proofs.Common.{refl, sym, ap, ◌∙◌, subst}
use Rattle.rx_observe.specs.Front.{AreFronts}
use Rattle.rx_observe.specs.Lived.{observing}
use Rattle.rx_observe.specs.Observing.{Observing, each, with_queries, settled}
use Rattle.rx_observe.specs.Rows.{emitted, emissions_due}
use Rattle.rx_observe.proofs.Beside.{each_beside}
use Rattle.rx_observe.proofs.Emitting.{distinct_each, emitted_settled, all_right_settled, none_left, emissions_are_due}
use Rattle.rx_observe.proofs.live.Live.emissions.Goals as goal

pub invariant_of-self-2 : goal.invariant_of-self-2
invariant_of-self-2 c =
    let i = c.self.inside in
    let now = c.emit_all.new.queries.items in
    let is = c.emit_all.ensures ∙ ap (each emitted) c.in_ok-look_all.ensures.same in
    λ whole. let kept = c.self.invariant whole in
    record {
      names = distinct_each emitted i.queries.items now is kept.names;
      right = all_right_settled i.collection i.queries.items now
          (is ∙ emitted_settled i.collection i.queries.items kept.right) kept.right;
      fronts = subst (λ qs. AreFronts i.collection qs i.fronts.items) (sym is)
          (each_beside i.collection emitted (λ w. refl) i.queries.items i.fronts.items
          kept.fronts);
      indexed = kept.indexed;
    }

pub returns-clause-due : goal.returns-clause-due
returns-clause-due c =
    let o = observing c.self.inside in
    let whole = ap (λ (x : Observing). x.broken) c.self.view_is ∙ c.requires.whole in
    c.in_ok-look_all.ensures.emissions
    ∙ emissions_are_due o.collection o.queries (c.self.invariant whole).right
    ∙ ap (λ (x : Observing). emissions_due x.collection x.queries) c.self.view_is

pub returns-clause-ok : goal.returns-clause-ok
returns-clause-ok c =
    let o = observing c.self.inside in
    let whole = ap (λ (x : Observing). x.broken) c.self.view_is ∙ c.requires.whole in
    ap (with_queries o)
    (c.emit_all.ensures ∙ ap (each emitted) c.in_ok-look_all.ensures.same
    ∙ emitted_settled o.collection o.queries (c.self.invariant whole).right)
    ∙ ap (λ (x : Observing). with_queries x (each (settled x.collection) x.queries)) c.self.view_is

pub returns-clause-none_left : goal.returns-clause-none_left
returns-clause-none_left c =
    let o = observing c.self.inside in
    let whole = ap (λ (x : Observing). x.broken) c.self.view_is ∙ c.requires.whole in
    ap (emissions_due o.collection)
    (c.emit_all.ensures ∙ ap (each emitted) c.in_ok-look_all.ensures.same
    ∙ emitted_settled o.collection o.queries (c.self.invariant whole).right)
    ∙ none_left o.collection o.queries
