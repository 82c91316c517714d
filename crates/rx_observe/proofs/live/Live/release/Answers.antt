use Rattle.std.proofs.Common.{◌≡◌, [], ap, ◌∙◌, subst}
use Rattle.rx_observe.specs.Lived.{observing}
use Rattle.rx_observe.specs.Observing.{Observing, AllRight, cooled}
use Rattle.rx_observe.specs.Rows.{emissions_due}
use Rattle.rx_observe.proofs.Emitting.{all_right_cooled, all_cold, distinct_each}
use Rattle.rx_observe.proofs.live.Live.release.Goals as goal

pub returns-clause-right : goal.returns-clause-right
returns-clause-right c =
    let o = observing c.self.inside in
    let now = c.cool_all.new.queries.items in
    let whole = ap (λ (x : Observing). x.broken) c.self.view_is ∙ c.requires.whole in
    let Right : Observing → Type 0 = λ x. emissions_due x.collection x.queries ≡ []
    → AllRight x.collection now in
    subst Right c.self.view_is
    (all_right_cooled o.collection o.queries now c.cool_all.ensures (c.self.invariant whole).right)

pub returns-clause-names : goal.returns-clause-names
returns-clause-names c =
    let o = observing c.self.inside in
    let whole = ap (λ (x : Observing). x.broken) c.self.view_is ∙ c.requires.whole in
    distinct_each cooled o.queries c.cool_all.new.queries.items c.cool_all.ensures
    (c.self.invariant whole).names

pub returns-clause-cold : goal.returns-clause-cold
returns-clause-cold c =
    all_cold c.self.inside.queries.items c.cool_all.new.queries.items c.cool_all.ensures
