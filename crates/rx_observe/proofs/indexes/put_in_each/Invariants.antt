use Rattle.std.proofs.Common.{◌≡◌, map}
use Rattle.rx_collection.specs.Commit.{with_row}
use Rattle.rx_index.specs.Index.{Holds}
use Rattle.rx_observe.proofs.Indexing.{Until}
use Rattle.rx_observe.proofs.indexes.put_in_each.Given as goal

-- the first i hold the row
abbrev pub invariant-loop-i : goal.invariant-loop-i
invariant-loop-i l = record {
  fields : map (λ i. i.fields) l.indexes.items ≡ map (λ i. i.fields) l.fn.indexes.items;
  held : Until (λ i. Holds i (with_row l.collection l.row).documents)
      (λ i. Holds i l.collection.documents) l.i l.indexes.items;
}
