use Rattle.std.proofs.Common.{Bor, ◌++◌, map, sym, ap, ◌∙◌, subst}
use Rattle.std.proofs.lemmas.List.{map-append}
use Rattle.std.specs.List.{IsDistinct}
use Rattle.std.specs.Ordering.{eq_by_cmp}
use Rattle.rx_document.specs.declared.stored.Stored.{Stored}
use Rattle.rx_query.specs.QuerySpec.{asked}
use Rattle.rx_query.specs.Lists.{sorted}
use Rattle.rx_query.specs.Result.{stored_before, stored_cmp}
use Rattle.rx_planner.proofs.Walks.{gathered}
use Rattle.rx_planner.proofs.walk.gather.Goals as goal

pub put_in_order-requires : goal.put_in_order-requires
put_in_order-requires g c =
    let q = asked c.args.query.now in
    subst (IsDistinct (eq_by_cmp (stored_cmp q)))
    (sym (gathered q (g.T.Lookup.documents c.args.docs.now)
    (map (λ (r : Bor Stored). r.now) c.in_ok-more.more.items) c.first_due.new.ids c.args.ids
    c.in_ok-more.ensures.split c.in_ok-more.ensures.full))
    c.requires

pub returns : goal.returns
returns g c =
    let q = asked c.args.query.now in
    let now : Bor Stored → Stored = λ r. r.now in
    let so = c.args.rows.now.items in
    ap (map now) c.in_ok-append.ensures.items
    ∙ map-append now so c.put_in_order.new.rows.items
    ∙ ap (λ xs. map now so ++ xs)
    (c.put_in_order.ensures
    ∙ ap (sorted (stored_before q))
    (gathered q (g.T.Lookup.documents c.args.docs.now) (map now c.in_ok-more.more.items)
    c.first_due.new.ids c.args.ids c.in_ok-more.ensures.split c.in_ok-more.ensures.full))
