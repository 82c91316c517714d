use Rattle.rx_query.specs.QuerySpec.{asked}
use Rattle.rx_actions.proofs.Acted.{to_later, to_earlier}
use Rattle.rx_actions.proofs.acting.sorted_place_for.Goals as goal

-- behind the row that goes out
pub returns-then-out-into-clause-moved : goal.returns-then-out-into-clause-moved
returns-then-out-into-clause-moved c =
    to_later (asked c.args.query.now) c.args.row.now c.args.results.now c.args.out
    c.sorted_place-into.result c.requires c.sorted_place-into.ensures.first c.if-out-into.true
    c.sorted_place-into.ensures.within

-- at its place or before it
pub returns-else-out-into-clause-moved : goal.returns-else-out-into-clause-moved
returns-else-out-into-clause-moved c =
    to_earlier (asked c.args.query.now) c.args.row.now c.args.results.now c.args.out
    c.sorted_place-into.result c.requires c.sorted_place-into.ensures.first c.if-out-into.false
