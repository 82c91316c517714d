-- Steps that make something of fields, since all numbers are near enough to 0.
use Rattle.std.specs.Prelude.{◌*◌, ℕ, List, [], ◌∷◌, Bool, true, nat_le, unsigned_abs, Option, Some}
use Rattle.rx_value.specs.Due.{◌>>=◌, only_if}
use Rattle.rx_value.specs.Value.{largest}
use Rattle.rx_value.specs.declared.value.Value.{Value}
use Rattle.rx_value.specs.declared.value.Value.TheVariants.{Int}
use Rattle.rx_migrate.specs.declared.step.Step.{Step}
use Rattle.rx_migrate.specs.declared.step.Step.TheVariants.{Rename, Set, Unset, Scale}

-- a number is at most so far from 0
abbrev pub is_within : ℕ → Value → Bool
is_within most (Int n) = nat_le (unsigned_abs n) most
is_within most _ = true

-- how far numbers may be once they are multiplied, where all stay in range
abbrev pub grown : ℕ → ℕ → Option ℕ
grown most by = only_if (nat_le (most * by) largest) (Some (most * by))

-- how far they may be after a step
abbrev pub most_after : Step → ℕ → Option ℕ
most_after (Rename field to) most = Some most
most_after (Set field v) most = only_if (is_within most v) (Some most)
most_after (Unset field) most = Some most
most_after (Scale field by) most = grown most by

-- and after all steps
abbrev pub most_after_all : List Step → ℕ → Option ℕ
most_after_all [] most = Some most
most_after_all (s ∷ ss) most = most_after s most >>= most_after_all ss
