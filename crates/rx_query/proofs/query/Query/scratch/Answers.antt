use Rattle.std.proofs.Common.{Bor, List, rules, ap, subst, ◌∙◌}
use Rattle.std.proofs.lemmas.Fn.{always_returns_same}
use Rattle.std.proofs.lemmas.List.Sorted.{ranks_by}
use Rattle.std.specs.List.Sorted.{IsPermutation}
use Rattle.std.specs.Ordering.{is_lt}
use Rattle.rx_document.specs.declared.stored.Stored.{Stored}
use Rattle.rx_query.specs.QuerySpec.{asked}
use Rattle.rx_query.specs.Result.{at_most}
use Rattle.rx_query.proofs.Orders.{query_total}
use Rattle.rx_query.proofs.Rows.{lent_cmp, sort_gives}
use Rattle.rx_query.proofs.query.Query.scratch.Goals as goal

-- the closure compares by the order of the query
pub returns : goal.returns
returns c =
    let q = asked c.args.self.now in
    let all = c.sort_unstable_by.new.self.items in
    sort_gives q c.args.docs.now all _ c.requires
    (subst (λ (xs : List (Bor Stored)). IsPermutation xs all) c.in_ok-rows.ensures
    c.sort_unstable_by.ensures.permutation)
    (c.sort_unstable_by.ensures.sorted (λ a b. is_lt (lent_cmp q a b))
    (ranks_by (query_total q) (λ (a : Bor Stored). a.now.state.fields))
    (always_returns_same _ _ _ (λ a r f k. search rules)))
    (c.limit_rows.ensures ∙ ap (at_most q.limit) c.skip_rows.ensures)
