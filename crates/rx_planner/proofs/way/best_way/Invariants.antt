use Rattle.std.proofs.Common.{◌≡◌, IfSome, map, option_map}
use Rattle.rx_query.specs.QuerySpec.{asked}
use Rattle.rx_planner.specs.Way.{width_at, IsWayBy, HasBest}
use Rattle.rx_planner.proofs.way.best_way.Given as goal

-- the best one so far
abbrev pub invariant-loop-i : goal.invariant-loop-i
invariant-loop-i l = record {
  best : HasBest (asked l.query) l.indexes l.i (option_map (λ way. way.index) l.best);
  keys : IfSome l.best (λ way. way.keys ≡ width_at (asked l.query) l.indexes way.index);
  way : IfSome l.best (λ way. IsWayBy (asked l.query) l.indexes way.index
      (map (λ f. f.now) way.names.items));
}
