use Rattle.std.proofs.Common.{◌≡◌, ℕ, ◌+◌, ◌&&◌, Bool, List, true, false, drop, sym, ap, ◌∙◌}
use Rattle.std.specs.List.{list_all}
use Rattle.rx_value.proofs.Lists.{drop_at}
use Rattle.rx_query.specs.QuerySpec.{asked}
use Rattle.rx_planner.specs.Plan.{rises_freely}
use Rattle.rx_planner.proofs.order.rises_freely.Goals as goal

pub returns-then-not-is_free : goal.returns-then-not-is_free
returns-then-not-is_free c =
    let q = asked c.args.query.now in
    let i = c.loop-i.i in
    let sort : List ℕ × Bool = (c.sort-desc.result.0.now, c.sort-desc.result.1) in
    let fails : rises_freely q sort ≡ false = sym c.is_free.ensures ∙ c.if-not-is_free.true in
    sym (sym c.loop-i.invariant
    ∙ ap (list_all (rises_freely q)) (drop_at q.sorts i sort c.sort-desc.ensures)
    ∙ ap (λ b. b && list_all (rises_freely q) (drop (i + 1) q.sorts)) fails)

pub loop-i-preserved : goal.loop-i-preserved
loop-i-preserved c =
    let q = asked c.args.query.now in
    let i = c.loop-i.i in
    let sort : List ℕ × Bool = (c.sort-desc.result.0.now, c.sort-desc.result.1) in
    let holds : rises_freely q sort ≡ true = sym c.is_free.ensures ∙ c.if-not-is_free.false in
    sym (ap (list_all (rises_freely q)) (drop_at q.sorts i sort c.sort-desc.ensures)
    ∙ ap (λ b. b && list_all (rises_freely q) (drop (i + 1) q.sorts)) holds)
    ∙ c.loop-i.invariant
