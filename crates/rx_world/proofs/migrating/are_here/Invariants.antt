use Rattle.std.proofs.Common.{◌≡◌}
use Rattle.std.specs.List.{list_all}
use Rattle.rx_value.specs.Named.{by_bytes}
use Rattle.rx_world.specs.Migrating.{is_in_group}
use Rattle.rx_world.specs.Migration.{is_here}
use Rattle.rx_world.proofs.migrating.are_here.Given as goal

-- what is left is here where all is
abbrev pub invariant-loop-replication : goal.invariant-loop-replication
invariant-loop-replication l =
    let in_group = is_in_group (by_bytes l.replications.entries) l.name in
    (list_all (is_here in_group) l.replication-iterator
    ≡ list_all (λ e. is_here in_group e.1) (by_bytes l.replications.entries))
    × (goal.iterator-loop-replication).can_next l.replication-iterator
    × (goal.iterator-loop-replication).is_finite l.replication-iterator
