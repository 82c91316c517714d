use Rattle.std.proofs.Common.{◌≡◌}
use Rattle.std.specs.List.{list_all}
use Rattle.rx_world.specs.Migrating.{state_migrates}
use Rattle.rx_world.proofs.migrating.known_migrate.Given as goal

-- what is left migrates where all do
abbrev pub invariant-loop-state : goal.invariant-loop-state
invariant-loop-state l =
    (list_all (state_migrates l.schema l.steps) l.state-iterator
    ≡ list_all (λ e. state_migrates l.schema l.steps e.1) l.side.known)
    × (goal.iterator-loop-state).can_next l.state-iterator
    × (goal.iterator-loop-state).is_finite l.state-iterator
