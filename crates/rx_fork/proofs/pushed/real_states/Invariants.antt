use Rattle.std.proofs.Common.{◌≡◌, ◌++◌, drop, map}
use Rattle.rx_replication.specs.Taking.{real_state}
use Rattle.rx_replication.proofs.Distinct.{RowKeysDiffer}
use Rattle.rx_fork.proofs.pushed.real_states.Given as goal

-- the states so far, and those of the rows to come, by the conflicts that are left
abbrev pub invariant-loop-row : goal.invariant-loop-row
invariant-loop-row l =
    (l.states.items ++ map (real_state l.left) (drop l.row-index l.rows)
    ≡ map (real_state l.conflicts) l.rows)
    × RowKeysDiffer (drop l.row-index l.rows)
