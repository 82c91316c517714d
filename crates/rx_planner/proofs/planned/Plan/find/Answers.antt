use Rattle.std.proofs.Common.{◌≡◌, Bor, IfSome, map, drop, ap, ◌∙◌, subst}
use Rattle.std.specs.Map.{values_of}
use Rattle.rx_document.specs.declared.stored.Stored.{Stored}
use Rattle.rx_query.proofs.Rows.{map-drop}
use Rattle.rx_query.specs.QuerySpec.{asked}
use Rattle.rx_query.specs.Result.{result_of}
use Rattle.rx_index.specs.Index.{is_between}
use Rattle.rx_planner.proofs.Walks.{held_at}
use Rattle.rx_planner.proofs.planned.Plan.find.Goals as goal

pub run-requires-clause-held : goal.run-requires-clause-held
run-requires-clause-held g c =
    let plan = c.args.self.now in
    held_at (g.T.Lookup.documents c.args.docs.now) (is_between plan.low plan.high)
    c.args.indexes.now plan.index c.requires.held

pub returns-clause-rows : goal.returns-clause-rows
returns-clause-rows g c =
    let q = asked c.args.query.now in
    let documents = g.T.Lookup.documents c.args.docs.now in
    let now : Bor Stored → Stored = λ r. r.now in
    let items = c.in-Some.rows.items in
    ap (map now) c.skip_rows.ensures
    ∙ map-drop now c.skip.result items
    ∙ ap (λ n. drop n (map now items)) c.skip.ensures
    ∙ subst (λ o. IfSome o (λ rows. drop q.skip (map now rows.items)
    ≡ result_of q (values_of documents))) c.in-Some.is
    c.in_ok-rows.ensures.rows
