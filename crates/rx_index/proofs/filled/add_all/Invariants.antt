use Rattle.std.proofs.Common.{◌≡◌, ◌||◌}
use Rattle.std.specs.Vec.Iter.{into_iter_items}
use Rattle.rx_index.specs.Index.{has_key}
use Rattle.rx_index.specs.Packed.{AreKeys, positions}
use Rattle.rx_index.specs.Position.{Position}
use Rattle.rx_index.proofs.filled.add_all.Given as goal

-- the keys that are there and those to come are all of them
abbrev pub invariant-loop-entry : goal.invariant-loop-entry
invariant-loop-entry l = record {
  fields : l.index.fields ≡ l.initial.index.fields;
  keys : AreKeys (into_iter_items l.entry-iterator);
  had : (k : Position)
      → (has_key l.index.keys k || has_key (positions (into_iter_items l.entry-iterator)) k)
      ≡ (has_key l.initial.index.keys k
      || has_key (positions (into_iter_items l.initial.entry-iterator)) k);
}
