use Rattle.std.proofs.Common.{◌≡◌, ◌++◌, drop, length, map, take}
use Rattle.rx_collection.specs.Migrated.{stored_after}
use Rattle.rx_collection.proofs.migrating.migrate_rows.Given as goal

-- the rows so far are after the steps, and with the others after them all will be
abbrev pub invariant-loop-slot : goal.invariant-loop-slot
invariant-loop-slot l = record {
  turned :
      take l.slot l.rows ++ map (stored_after l.steps) (drop l.slot l.rows)
      ≡ map (stored_after l.steps) l.initial.rows;
  same : length l.rows ≡ length l.initial.rows;
}
