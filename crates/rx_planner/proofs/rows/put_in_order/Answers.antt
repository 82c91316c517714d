use Rattle.std.proofs.Common.{Bor, rules}
use Rattle.std.proofs.lemmas.Fn.{always_returns_same}
use Rattle.std.proofs.lemmas.List.Sorted.{ranks_by}
use Rattle.std.specs.Ordering.{is_lt}
use Rattle.rx_document.specs.declared.stored.Stored.{Stored}
use Rattle.rx_query.proofs.Orders.{query_total}
use Rattle.rx_query.proofs.Rows.{lent_cmp}
use Rattle.rx_query.specs.QuerySpec.{asked}
use Rattle.rx_planner.proofs.Rising.{sort_is}
use Rattle.rx_planner.proofs.rows.put_in_order.Goals as goal

pub returns : goal.returns
returns c =
    let q = asked c.args.query.now in
    sort_is q c.args.rows.now.items c.sort_unstable_by.new.self.items c.requires
    c.sort_unstable_by.ensures.permutation
    (c.sort_unstable_by.ensures.sorted (λ a b. is_lt (lent_cmp q a b))
    (ranks_by (query_total q) (λ (a : Bor Stored). a.now.state.fields))
    (always_returns_same _ _ _ (λ a r f k. search rules)))
