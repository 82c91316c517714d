use Rattle.std.proofs.Common.{◌≡◌, Bor, not, None, IfOk, OnOk, ap, ◌∙◌, subst}
use Rattle.rx_query.specs.declared.results.Results.{Results}
use Rattle.rx_table.specs.declared.action.Action.{Action}
use Rattle.rx_observe.specs.Applied.{answer_for}
use Rattle.rx_observe.specs.Watched.{Watched}
use Rattle.rx_observe.proofs.Applying.{cold_action, cold_applied}
use Rattle.rx_observe.proofs.Steps.{no_rows}
use Rattle.rx_observe.proofs.step.apply.Goals as goal

pub returns-then-is_none-clause-answer : goal.returns-then-is_none-clause-answer
returns-then-is_none-clause-answer c =
    let w = c.args.observed.now in
    let none : w.rows ≡ None = no_rows (λ (r : Bor Results). r.now) w.rows c.rows.result
    c.rows.ensures (c.is_none.ensures ∙ ap not c.if-is_none.true) in
    subst (λ (a : Action). IfOk c.apply.result (λ x. x ≡ answer_for a))
    (cold_action w c.args.change.now c.in_ok-unknown.field-0 c.in_ok-unknown.ensures none)
    c.apply.ensures.answer

pub returns-then-is_none-clause-value : goal.returns-then-is_none-clause-value
returns-then-is_none-clause-value c =
    let w = c.args.observed.now in
    let none : w.rows ≡ None = no_rows (λ (r : Bor Results). r.now) w.rows c.rows.result
    c.rows.ensures (c.is_none.ensures ∙ ap not c.if-is_none.true) in
    subst (λ (x : Watched). OnOk c.apply.result (c.apply.new.self ≡ x))
    (cold_applied w c.args.change.now c.in_ok-unknown.field-0 c.in_ok-unknown.ensures none)
    c.apply.ensures.value
