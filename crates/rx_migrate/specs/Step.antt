-- The steps that a line takes.
use Rattle.std.specs.Prelude.{◌≡◌, ◌≤◌, ℕ, List, length, Bool, true, ◌&&◌, ◌||◌, nat_le}
use Rattle.std.specs.List.{AllByRecursion, list_any}
use Rattle.std.specs.Str.{bytes_eq}
use Rattle.rx_value.specs.Name.{is_field_name}
use Rattle.rx_value.specs.Value.{is_value}
use Rattle.rx_migrate.specs.declared.step.Step.{Step}
use Rattle.rx_migrate.specs.declared.step.Step.TheVariants.{Rename, Set, Unset, Scale}

-- the most steps of a migration
abbrev pub most_steps : ℕ
most_steps = 64

-- the greatest factor of a scale
abbrev pub most_by : ℕ
most_by = 1000

-- its fields have names of fields, its value is in range, and its factor is from 1 to 1000
abbrev pub is_step : Step → Bool
is_step (Rename field to) = is_field_name field && is_field_name to
is_step (Set field v) = is_field_name field && is_value v
is_step (Unset field) = is_field_name field
is_step (Scale field by) = is_field_name field && nat_le 1 by && nat_le by most_by

-- such steps, and not too many
pub record AreSteps (steps : List Step) : Type 0 where
  pub each : AllByRecursion (λ s. is_step s ≡ true) steps
  pub few : length steps ≤ most_steps

-- a step names the field
abbrev pub is_named_in : List ℕ → Step → Bool
is_named_in name (Rename field to) = bytes_eq field name || bytes_eq to name
is_named_in name (Set field v) = bytes_eq field name
is_named_in name (Unset field) = bytes_eq field name
is_named_in name (Scale field by) = bytes_eq field name

-- one of the steps does
abbrev pub is_named : List ℕ → List Step → Bool
is_named name steps = list_any (is_named_in name) steps
