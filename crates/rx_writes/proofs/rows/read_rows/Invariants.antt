use Rattle.std.proofs.Common.{◌≡◌, [], map, drop}
use Rattle.serde_json.specs.View.{view}
use Rattle.rx_writes.specs.Documents.{next_revision}
use Rattle.rx_writes.specs.Rows.{rows_states}
use Rattle.rx_writes.proofs.EachRow.{after}
use Rattle.rx_writes.proofs.rows.read_rows.Given as goal

-- the states so far, before those of the rows that are left, are all, and the revisions are theirs
abbrev pub invariant-loop-row : goal.invariant-loop-row
invariant-loop-row g l = record {
  states : rows_states l.collection l.attached 0 [] (map view l.docs)
      ≡ after l.states.items
      (rows_states l.collection l.attached l.row l.seen (map view (drop l.row l.docs)));
  revs : l.revs.items ≡ map (λ s. next_revision l.collection s.key) l.states.items;
}
