use Rattle.std.proofs.Common.{◌≡◌}
use Rattle.std.specs.Vec.Iter.{into_iter_items}
use Rattle.rx_world.specs.Copy.{are_copied_rows, with_part}
use Rattle.rx_world.proofs.copying.copy_rows.Given as goal

-- the rows to come make of the collection what all were to make, and are taken where all were
abbrev pub invariant-loop-row : goal.invariant-loop-row
invariant-loop-row l = record {
  rows :
      with_part (into_iter_items l.row-iterator) l.collection
      ≡ with_part (into_iter_items l.initial.row-iterator) l.initial.collection;
  may :
      are_copied_rows (into_iter_items l.row-iterator) l.collection
      ≡ are_copied_rows (into_iter_items l.initial.row-iterator) l.initial.collection;
}
