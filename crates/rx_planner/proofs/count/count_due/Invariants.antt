use Rattle.std.proofs.Common.{◌≡◌, ◌+◌, ◌<◌, ◌^◌, length}
use Rattle.rx_query.specs.QuerySpec.{asked}
use Rattle.rx_planner.specs.Rows.{due_among}
use Rattle.rx_planner.proofs.count.count_due.Given as goal

-- the due documents so far and those to come
abbrev pub invariant-loop-entry : goal.invariant-loop-entry
invariant-loop-entry g l = record {
  counted : l.count
      + length (due_among (asked l.query) (g.T.Lookup.documents l.docs) l.entry-iterator)
      ≡ length (due_among (asked l.query) (g.T.Lookup.documents l.docs) l.initial.entry-iterator);
  fits : l.count + length l.entry-iterator < 2 ^ 63;
  can_next : (goal.iterator-loop-entry g).can_next l.entry-iterator;
  finite : (goal.iterator-loop-entry g).is_finite l.entry-iterator;
}
