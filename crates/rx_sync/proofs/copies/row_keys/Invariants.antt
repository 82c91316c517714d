use Rattle.std.proofs.Common.{◌≡◌, ◌++◌, drop}
use Rattle.rx_sync.specs.Exchange.{row_keys}
use Rattle.rx_sync.proofs.copies.row_keys.Given as goal

-- the keys so far, and those of the rows to come
abbrev pub invariant-loop-row : goal.invariant-loop-row
invariant-loop-row l = l.keys ++ row_keys (drop l.row-index l.rows) ≡ row_keys l.rows
