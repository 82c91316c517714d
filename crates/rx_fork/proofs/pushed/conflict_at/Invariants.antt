use Rattle.std.proofs.Common.{◌≡◌, drop}
use Rattle.rx_replication.specs.Taking.{conflict_at}
use Rattle.rx_fork.proofs.pushed.conflict_at.Given as goal

-- none of those before has the key
abbrev pub invariant-loop-conflict : goal.invariant-loop-conflict
invariant-loop-conflict l =
    conflict_at l.key (drop l.conflict-index l.conflicts) ≡ conflict_at l.key l.conflicts
