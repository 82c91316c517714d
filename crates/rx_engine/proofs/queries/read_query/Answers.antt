use Rattle.std.proofs.Common.{ap, ◌∙◌}
use Rattle.serde_json.specs.View.{view}
use Rattle.rx_query.specs.QuerySpec.{asked}
use Rattle.rx_engine.proofs.Reading.{query_primary}
use Rattle.rx_engine.proofs.queries.read_query.Goals as goal

pub returns-clause-keyed : goal.returns-clause-keyed
returns-clause-keyed c =
    query_primary c.kinds.result.now c.primary.result.now (view c.args.query.now)
    (asked c.in_ok-read.field-0) c.in_ok-read.ensures
    ∙ c.primary.ensures ∙ ap (λ s. s.primary) c.schema-schema.ensures
