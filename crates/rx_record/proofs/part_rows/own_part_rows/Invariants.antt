use Rattle.std.proofs.Common.{◌≡◌, ◌++◌, length}
use Rattle.rx_record.specs.Views.{part_rows_left}
use Rattle.rx_record.proofs.part_rows.own_part_rows.Given as goal

-- the rows so far, and then those that are still to come
abbrev pub invariant-loop-row : goal.invariant-loop-row
invariant-loop-row l = part_rows_left l.fn.rows ≡ l.owned.items ++ part_rows_left l.rows

abbrev pub decreases-loop-row : goal.decreases-loop-row
decreases-loop-row l = length (part_rows_left l.rows)
