use Rattle.std.proofs.Common.{◌≡◌}
use Rattle.rx_value.specs.Named.{by_bytes}
use Rattle.rx_world.specs.Migrating.{is_in_group}
use Rattle.rx_world.specs.Migration.{invalid_replication}
use Rattle.rx_world.proofs.migrating.invalid_replication.Given as goal

-- the first of what is left is the first of all
abbrev pub invariant-loop-called : goal.invariant-loop-called
invariant-loop-called l =
    let in_group = is_in_group (by_bytes l.replications.entries) l.name in
    (invalid_replication in_group l.schema l.steps (by_bytes l.called-iterator)
    ≡ invalid_replication in_group l.schema l.steps (by_bytes l.replications.entries))
    × (goal.iterator-loop-called).can_next l.called-iterator
    × (goal.iterator-loop-called).is_finite l.called-iterator
