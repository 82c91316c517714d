use Rattle.std.proofs.Common.{Bor, ◌++◌, map, refl, sym, ap, ◌∙◌, subst}
use Rattle.std.specs.List.{IsDistinct}
use Rattle.std.specs.Ordering.{eq_by_cmp}
use Rattle.rx_document.specs.declared.stored.Stored.{Stored}
use Rattle.rx_query.specs.QuerySpec.{asked}
use Rattle.rx_query.specs.Lists.{sorted}
use Rattle.rx_query.specs.Result.{stored_before, stored_cmp}
use Rattle.rx_planner.specs.Rows.{due_among}
use Rattle.rx_planner.proofs.Runs.{met_distinct}
use Rattle.rx_planner.proofs.walk.take_rest.Goals as goal

pub gather-requires : goal.gather-requires
gather-requires g c =
    let q = asked c.args.query.now in
    let documents = g.T.Lookup.documents c.args.docs.now in
    let index = c.args.index.now in
    let walk = c.args.walk.now in
    subst (λ ids. IsDistinct (eq_by_cmp (stored_cmp q)) (due_among q documents ids))
    (sym c.range-ids.ensures.ids)
    (met_distinct q documents index.fields index.keys walk.low walk.high c.requires.keyed
    c.range-ids.ensures.rising (λ k _. c.requires.held k refl))

pub returns-clause-rows : goal.returns-clause-rows
returns-clause-rows g c =
    let q = asked c.args.query.now in
    let documents = g.T.Lookup.documents c.args.docs.now in
    let so = map (λ (r : Bor Stored). r.now) c.args.walk.now.rows.items in
    c.in_ok-gather.ensures
    ∙ ap (λ ids. so ++ sorted (stored_before q) (due_among q documents ids)) c.range-ids.ensures.ids
