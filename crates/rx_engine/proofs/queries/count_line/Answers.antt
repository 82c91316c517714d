use Rattle.std.proofs.Common.{sym, ap, ◌∙◌}
use Rattle.serde_json.specs.View.{view}
use Rattle.rx_query.specs.QuerySpec.{asked}
use Rattle.rx_engine.specs.Queries.{query_on}
use Rattle.rx_engine.specs.Shown.{outcome_of}
use Rattle.rx_engine.proofs.Lines.{counted_line}
use Rattle.rx_engine.proofs.Rows.{rows_count}
use Rattle.rx_engine.proofs.queries.count_line.Goals as goal

pub returns-clause-exact : goal.returns-clause-exact
returns-clause-exact c =
    let held = c.in_ok-live.live.now.collection in
    let q = asked c.in_ok-query.query in
    counted_line c.args.coll.now (view c.args.query.now) c.args.session.now held q
    (outcome_of c.answer_alone.result)
    c.in_ok-live.ensures.exact
    (ap (λ h. query_on h (view c.args.query.now)) (sym c.collection.ensures)
    ∙ c.in_ok-query.ensures.exact)
    c.in_ok-count.count (c.in_ok-count.ensures ∙ rows_count q held.documents) c.answer_alone.ensures
