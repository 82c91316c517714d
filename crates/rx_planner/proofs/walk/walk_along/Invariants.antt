use Rattle.std.proofs.Common.{◌+◌, ◌-◌, ◌*◌, ◌≤◌, map}
use Rattle.rx_query.specs.QuerySpec.{asked}
use Rattle.rx_planner.specs.Way.{needed, IsUnderWay}
use Rattle.rx_planner.proofs.walk.walk_along.Given as goal

-- it goes on, and may look at more
abbrev pub invariant-parts : goal.invariant-parts
invariant-parts g l = record {
  under : IsUnderWay (asked l.query) (g.T.Lookup.documents l.docs) l.index
      (map (λ r. r.now) l.walk.rows.items) l.walk.looked l.walk.low l.walk.high;
  within : l.walk.looked ≤ l.budget;
  cost : l.walk.looked
      ≤ 2 * needed (asked l.query) (g.T.Lookup.documents l.docs) l.index l.most + l.most;
}

abbrev pub decreases-parts : goal.decreases-parts
decreases-parts g l = l.budget - l.walk.looked
