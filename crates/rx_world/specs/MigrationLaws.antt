-- What holds of every migration.
use Rattle.std.specs.Prelude.{◌≡◌, ℕ, List, true, Some}
use Rattle.rx_migrate.specs.declared.step.Step.{Step}
use Rattle.rx_schema.specs.declared.shape.Shape.{Shape}
use Rattle.rx_record.specs.Content.{migration}
use Rattle.rx_world.specs.Made.{IsMadeWorld}
use Rattle.rx_world.specs.Migrating.{migrate_step}
use Rattle.rx_world.specs.Schema.{schema_in}
use Rattle.rx_world.specs.Sound.{IsSoundWorld}
use Rattle.rx_world.specs.Step.{legal, step}
use Rattle.rx_world.specs.World.{World}

-- its record takes the group to the schema of its text
abbrev pub MigrationMigrates : Type 0
MigrationMigrates =
    (name text : List ℕ) (schema : Shape) (steps : List Step) (w : World)
    → schema_in text ≡ Some schema
    → step (migration name text steps) w ≡ migrate_step name schema steps w

-- a legal one leaves a world of which all holds that holds of made ones
abbrev pub MigrationKeepsMade : Type 0
MigrationKeepsMade =
    (name text : List ℕ) (steps : List Step) (w : World)
    → legal (migration name text steps) w ≡ true → IsMadeWorld w
    → IsMadeWorld (step (migration name text steps) w)

-- and a sound one where it was sound: equal states stay equal, and places stay
abbrev pub MigrationKeepsSound : Type 0
MigrationKeepsSound =
    (name text : List ℕ) (steps : List Step) (w : World)
    → legal (migration name text steps) w ≡ true → IsSoundWorld w
    → IsSoundWorld (step (migration name text steps) w)
