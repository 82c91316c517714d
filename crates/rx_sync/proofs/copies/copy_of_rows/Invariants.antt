use Rattle.std.proofs.Common.{◌≡◌, ◌++◌, drop}
use Rattle.rx_sync.proofs.copies.copy_of_rows.Given as goal

-- the rows so far, and those to come
abbrev pub invariant-loop-row : goal.invariant-loop-row
invariant-loop-row l = l.list ++ drop l.row-index l.rows ≡ l.rows
