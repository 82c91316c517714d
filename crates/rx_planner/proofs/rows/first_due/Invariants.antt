use Rattle.std.proofs.Common.{◌≡◌, ◌++◌, length, map}
use Rattle.rx_query.specs.QuerySpec.{asked}
use Rattle.rx_planner.specs.Rows.{due_among, AtMost}
use Rattle.rx_planner.proofs.rows.first_due.Given as goal

-- the rows so far and those to come, and no more than are wanted
abbrev pub invariant-rows : goal.invariant-rows
invariant-rows g l = record {
  split : map (λ r. r.now) l.rows.items
      ++ due_among (asked l.query) (g.T.Lookup.documents l.docs) l.ids
      ≡ due_among (asked l.query) (g.T.Lookup.documents l.docs) l.initial.ids;
  within : AtMost l.most (length l.rows.items);
}

abbrev pub decreases-rows : goal.decreases-rows
decreases-rows g l = length l.ids
