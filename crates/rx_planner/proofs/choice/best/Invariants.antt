use Rattle.std.proofs.Common.{◌≡◌, map}
use Rattle.rx_query.specs.QuerySpec.{asked}
use Rattle.rx_planner.specs.Choice.{IsBest}
use Rattle.rx_planner.specs.Plan.{score, path_at}
use Rattle.rx_planner.proofs.choice.best.Given as goal

-- the best so far, and its score
abbrev pub invariant-loop-i : goal.invariant-loop-i
invariant-loop-i l = record {
  wins : IsBest (asked l.query) (map (λ i. i.fields) l.indexes) l.i l.best;
  scored : l.greatest
      ≡ score (asked l.query) (path_at (asked l.query) (map (λ i. i.fields) l.indexes) l.best);
}
