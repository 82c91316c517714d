use Rattle.std.proofs.Common.{◌≡◌}
use Rattle.std.specs.List.{list_all}
use Rattle.rx_world.specs.Migrating.{documents_migrate, state_migrates}
use Rattle.rx_world.proofs.migrating.documents_migrate.Given as goal

-- what is left migrates where all do
abbrev pub invariant-loop-held : goal.invariant-loop-held
invariant-loop-held l =
    (list_all (λ d. state_migrates l.schema l.steps d.state) l.held-iterator
    ≡ documents_migrate l.schema l.steps l.collection)
    × (goal.iterator-loop-held).can_next l.held-iterator
    × (goal.iterator-loop-held).is_finite l.held-iterator
