use Rattle.std.proofs.Common.{◌≡◌, false, rules, sym, ◌∙◌}
use Rattle.std.specs.Ordering.{is_ne}
use Rattle.rx_query.specs.QuerySpec.{asked}
use Rattle.rx_query.specs.Order.{field_cmp, sorts_cmp}
use Rattle.rx_query.proofs.Orders.{key_decides}
use Rattle.rx_query.proofs.query.Query.before.Goals as goal

-- where the sort ties
pub returns : goal.returns
returns c =
    let q = asked c.args.self.now in
    let x = c.args.a.now in
    let y = c.args.b.now in
    let tie : is_ne (sorts_cmp q.sorts x y) ≡ false = search rules in
    let by_key : c.order.result ≡ field_cmp q.primary x y = search rules in
    by_key ∙ sym (key_decides q x y tie)
