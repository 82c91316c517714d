-- What a fork knows after the steps of a migration.
use Rattle.std.specs.Prelude.{ℕ, List, map}
use Rattle.std.specs.Option.{unwrap_or}
use Rattle.rx_value.specs.declared.state.State.{State}
use Rattle.rx_migrate.specs.Migrated.{migrated}
use Rattle.rx_migrate.specs.declared.step.Step.{Step}

-- known states with their keys, each after the steps, where they make one
abbrev pub known_after : List Step → List (List ℕ × State) → List (List ℕ × State)
known_after steps known = map (λ e. (e.0, unwrap_or (migrated steps e.1) e.1)) known
