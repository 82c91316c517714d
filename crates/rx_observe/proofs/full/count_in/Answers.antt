use Rattle.std.proofs.Common.{length, filter, sym, ap, ◌∙◌}
use Rattle.std.specs.Map.{values_of}
use Rattle.rx_query.specs.QuerySpec.{asked}
use Rattle.rx_query.specs.Result.{is_due}
use Rattle.rx_planner.specs.Count.{in_window}
use Rattle.rx_planner.proofs.Counts.{window_length}
use Rattle.rx_observe.proofs.full.count_in.Goals as goal

pub returns : goal.returns
returns c =
    let q = asked c.args.query.now in
    c.in_window.ensures
    ∙ ap (in_window q) (c.count_due.ensures
    ∙ ap (λ docs. length (filter (is_due q) docs)) c.all.ensures.documents)
    ∙ sym (window_length q (values_of c.args.collection.now.documents))
