use Rattle.std.proofs.Common.{option_map, sym, ap, ◌∙◌}
use Rattle.std.specs.Ordering.{is_eq, is_gt, is_lt}
use Rattle.rx_query.specs.QuerySpec.{asked}
use Rattle.rx_states.proofs.Leading.{tells_falling, tells_rising}
use Rattle.rx_states.proofs.forms.precedes.Goals as goal

pub returns-then-falls : goal.returns-then-falls
returns-then-falls c =
    let x = c.args.x in
    let y = c.args.y in
    c.is_gt.ensures ∙ ap is_gt c.order-by_leading.ensures
    ∙ tells_falling x.fields.now y.fields.now (asked c.args.query.now)
    (option_map (λ v. v.now) x.leading) (option_map (λ v. v.now) y.leading)
    c.requires.x c.requires.y (sym c.falls.ensures ∙ c.if-falls.true)
    (ap is_eq (sym c.order-by_leading.ensures) ∙ sym c.is_eq.ensures ∙ c.if-is_eq.false)

pub returns-else-falls : goal.returns-else-falls
returns-else-falls c =
    let x = c.args.x in
    let y = c.args.y in
    c.is_lt-else-falls.ensures ∙ ap is_lt c.order-by_leading.ensures
    ∙ tells_rising x.fields.now y.fields.now (asked c.args.query.now)
    (option_map (λ v. v.now) x.leading) (option_map (λ v. v.now) y.leading)
    c.requires.x c.requires.y (sym c.falls.ensures ∙ c.if-falls.false)
    (ap is_eq (sym c.order-by_leading.ensures) ∙ sym c.is_eq.ensures ∙ c.if-is_eq.false)
