use Rattle.std.proofs.Common.{◌≡◌, Bor, IfSome, false, ap, ◌∙◌, subst}
use Rattle.rx_value.specs.Named.{named}
use Rattle.rx_observe.specs.Observing.{Observing, HaveDistinctNames}
use Rattle.rx_observe.specs.Watched.{IsRight}
use Rattle.rx_observe.specs.declared.observed.Observed.{Observed}
use Rattle.rx_observe.specs.Lived.{observing}
use Rattle.rx_observe.proofs.Emitting.{lent_right}
use Rattle.rx_observe.proofs.live.Live.observed.Goals as goal

pub returns-clause-right : goal.returns-clause-right
returns-clause-right c =
    let o = observing c.self.inside in
    let name = c.args.name.now in
    let at = c.find_query.ensures ∙ ap (λ qs. named qs name) c.as_slice.ensures.value in
    let Right : Observing → Type 0 = λ x. x.broken ≡ false
    → IfSome c.find_query.result (λ q. IsRight x.collection q.now) in
    subst Right c.self.view_is
    (λ whole. lent_right o.collection name o.queries (λ (q : Bor Observed). q.now)
    c.find_query.result (c.self.invariant whole).right at)

pub returns-clause-names : goal.returns-clause-names
returns-clause-names c =
    let Names : Observing → Type 0 = λ x. x.broken ≡ false → HaveDistinctNames x.queries in
    subst Names c.self.view_is (λ whole. (c.self.invariant whole).names)
