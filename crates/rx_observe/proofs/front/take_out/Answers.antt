use Rattle.std.proofs.Common.{◌≤◌, List, length, sym, subst}
use Rattle.std.proofs.lemmas.Result.{on_ok_weaker}
use Rattle.rx_query.specs.declared.results.Row.{Row}
use Rattle.rx_observe.proofs.Fronts.{changed_length}
use Rattle.rx_observe.proofs.front.take_out.Goals as goal

pub returns-then-not-is_among-clause-others : goal.returns-then-not-is_among-clause-others
returns-then-not-is_among-clause-others c =
    c.is_among.ensures.not_there c.if-not-is_among.true

pub returns-clause-no_more : goal.returns-clause-no_more
returns-clause-no_more c =
    on_ok_weaker c.act.result
    (λ is. subst (λ (rows : List Row). length rows ≤ length c.args.rows.now) (sym is)
    (changed_length c.args.change.now c.args.rows.now)) c.act.ensures.ok
