use Rattle.std.proofs.Common.{◌≡◌, ◌++◌, drop}
use Rattle.rx_replication.specs.Taking.{differences}
use Rattle.rx_fork.proofs.pulled.differences.Given as goal

-- the differences so far, and those of the states to come
abbrev pub invariant-loop-state : goal.invariant-loop-state
invariant-loop-state l =
    l.list ++ differences l.collection.documents (drop l.state-index l.states)
    ≡ differences l.collection.documents l.states
