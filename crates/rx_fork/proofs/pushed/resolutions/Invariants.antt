use Rattle.std.proofs.Common.{◌≡◌, ◌++◌, drop}
use Rattle.rx_handler.specs.Resolve.{resolve}
use Rattle.rx_replication.specs.Taking.{resolutions}
use Rattle.rx_replication.proofs.Distinct.{RowKeysDiffer}
use Rattle.rx_fork.proofs.pushed.resolutions.Given as goal

-- the answers so far, and those of the rows to come, by the conflicts that are left
abbrev pub invariant-loop-row : goal.invariant-loop-row
invariant-loop-row g l =
    (l.list ++ resolutions (resolve l.handler.kind l.field) l.left (drop l.row-index l.rows)
    ≡ resolutions (resolve l.handler.kind l.field) l.conflicts l.rows)
    × RowKeysDiffer (drop l.row-index l.rows)
