use Rattle.std.proofs.Common.{option_map, sym, ap, ◌∙◌}
use Rattle.std.specs.Ordering.{is_ne}
use Rattle.rx_query.specs.QuerySpec.{asked}
use Rattle.rx_states.proofs.Leading.{apart_by}
use Rattle.rx_states.proofs.forms.are_apart.Goals as goal

pub returns-then-is_ne : goal.returns-then-is_ne
returns-then-is_ne c =
    let x = c.args.x in
    let y = c.args.y in
    apart_by x.fields.now y.fields.now (asked c.args.query.now) (option_map (λ v. v.now) x.leading)
    (option_map (λ v. v.now) y.leading) c.requires.x c.requires.y
    (ap is_ne (sym c.order.ensures) ∙ sym c.is_ne.ensures ∙ c.if-is_ne.true)
