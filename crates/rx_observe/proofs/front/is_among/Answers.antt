use Rattle.std.proofs.Common.{sym, ◌∙◌}
use Rattle.rx_query.specs.QuerySpec.{asked}
use Rattle.rx_observe.proofs.Fronts.{not_true, leaves_unmatched, leaves_behind, leaves_absent}
use Rattle.rx_observe.proofs.front.is_among.Goals as goal

pub returns-then-not-matches-clause-not_there : goal.returns-then-not-matches-clause-not_there
returns-then-not-matches-clause-not_there c = λ _.
    leaves_unmatched (asked c.args.query.now) c.args.change.now c.args.rows.now
    (sym c.requires.was ∙ not_true c.args.matches.was c.if-not-matches.true)

pub returns-then-is_behind-clause-not_there : goal.returns-then-is_behind-clause-not_there
returns-then-is_behind-clause-not_there c = λ _.
    leaves_behind (asked c.args.query.now) c.args.change.now c.args.rows.now
    (sym c.is_behind.ensures ∙ c.if-is_behind.true)

pub returns-clause-not_there : goal.returns-clause-not_there
returns-clause-not_there c = λ none.
    leaves_absent (asked c.args.query.now) c.args.change.now c.args.rows.now
    (sym c.holds.ensures ∙ none)
