use Rattle.std.proofs.Common.{◌≡◌, IfOk, List, sym, ◌∙◌, subst}
use Rattle.rx_query.specs.QuerySpec.{asked}
use Rattle.rx_query.specs.declared.results.Row.{Row}
use Rattle.rx_observe.proofs.Fronts.{window_is}
use Rattle.rx_observe.proofs.full.rows_of.Goals as goal

pub returns-then-suffices-clause-rows : goal.returns-then-suffices-clause-rows
returns-then-suffices-clause-rows c =
    let documents = c.args.collection.now.documents in
    let is = window_is (asked c.args.query.now) c.in-Some.limit documents c.args.front.now
    (sym c.kept_limit.ensures ∙ c.in-Some.is) c.requires.front
    (sym c.suffices.ensures ∙ c.if-suffices.true) in
    subst (λ (rs : List Row). IfOk c.window.result (λ rows. rows ≡ rs)) is c.window.ensures

pub returns-clause-rows : goal.returns-clause-rows
returns-clause-rows c =
    let documents = c.args.collection.now.documents in
    let front = c.in_ok-fetched.fetched in
    let is = window_is (asked c.args.query.now) c.in-Some.limit documents front
    (sym c.kept_limit.ensures ∙ c.in-Some.is) c.in_ok-fetched.ensures.front
    c.in_ok-fetched.ensures.suffices in
    subst (λ (rs : List Row). IfOk c.window-2.result (λ rows. rows ≡ rs)) is c.window-2.ensures
