use Rattle.std.proofs.Common.{◌≡◌, drop}
use Rattle.rx_observe.specs.Rows.{same_rows}
use Rattle.rx_observe.proofs.rows.are_same_rows.Given as goal

-- the rows to come tell
abbrev pub invariant-loop-i : goal.invariant-loop-i
invariant-loop-i l = same_rows (drop l.i l.x) (drop l.i l.y) ≡ same_rows l.x l.y
