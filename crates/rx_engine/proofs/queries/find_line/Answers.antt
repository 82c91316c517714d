use Rattle.std.proofs.Common.{sym, ap, ◌∙◌}
use Rattle.serde_json.specs.View.{view}
use Rattle.rx_query.specs.QuerySpec.{asked}
use Rattle.rx_reply.specs.Answer.{rows_of}
use Rattle.rx_engine.specs.Queries.{query_on}
use Rattle.rx_engine.specs.Shown.{outcome_of}
use Rattle.rx_engine.proofs.Lines.{found_line}
use Rattle.rx_engine.proofs.Rows.{found_rows}
use Rattle.rx_engine.proofs.queries.find_line.Goals as goal

pub returns-clause-exact : goal.returns-clause-exact
returns-clause-exact c =
    let held = c.in_ok-live.live.now.collection in
    let q = asked c.in_ok-query.query in
    let rows = c.in_ok-rows.rows.items in
    found_line c.args.coll.now (view c.args.query.now) c.args.session.now held q
    (outcome_of c.answer_alone.result)
    c.in_ok-live.ensures.exact
    (ap (λ h. query_on h (view c.args.query.now)) (sym c.collection.ensures)
    ∙ c.in_ok-query.ensures.exact)
    (rows_of rows)
    (found_rows q held.documents rows c.in_ok-rows.ensures) c.answer_alone.ensures
