use Rattle.std.proofs.Common.{◌≡◌}
use Rattle.std.specs.Map.{values_of}
use Rattle.std.specs.Str.{bytes_eq}
use Rattle.rx_tree.specs.Forest.{master_of}
use Rattle.rx_world.specs.Chain.{local_forks}
use Rattle.rx_world.proofs.chain.master_of.Given as goal

-- what is left tells the master
abbrev pub invariant-loop-replication : goal.invariant-loop-replication
invariant-loop-replication l =
    (master_of bytes_eq (local_forks (values_of l.replications.entries)) l.fork
    ≡ master_of bytes_eq (local_forks l.replication-iterator) l.fork)
    × (goal.iterator-loop-replication).can_next l.replication-iterator
    × (goal.iterator-loop-replication).is_finite l.replication-iterator
