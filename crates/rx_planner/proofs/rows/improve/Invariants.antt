use Rattle.std.proofs.Common.{◌++◌, length, map}
use Rattle.rx_query.specs.QuerySpec.{asked}
use Rattle.rx_planner.specs.Rows.{due_among, StandsFor}
use Rattle.rx_planner.proofs.rows.improve.Given as goal

-- the rows stand for all, with the documents to come
abbrev pub invariant-loop-entry : goal.invariant-loop-entry
invariant-loop-entry g l = record {
  stand : StandsFor (asked l.query) (length l.initial.rows.items)
      (map (λ r. r.now) l.initial.rows.items
      ++ due_among (asked l.query) (g.T.Lookup.documents l.docs) l.fn.ids)
      (map (λ r. r.now) l.rows.items)
      (due_among (asked l.query) (g.T.Lookup.documents l.docs) l.entry-iterator);
  can_next : (goal.iterator-loop-entry g).can_next l.entry-iterator;
  finite : (goal.iterator-loop-entry g).is_finite l.entry-iterator;
}
