-- The steps of a migration.
use Rattle.std.specs.Prelude.{ℕ, List, [], ◌∷◌, ◌++◌, length, ◌&&◌, nat_le, if◌then◌else◌, Option, None, Ok, Err}
use Rattle.std.specs.Int.{w16, w32}
use Rattle.rx_value.specs.Name.{is_field_name}
use Rattle.rx_migrate.specs.Step.{most_by, most_steps}
use Rattle.rx_migrate.specs.declared.step.Step.{Step}
use Rattle.rx_migrate.specs.declared.step.Step.TheVariants.{Rename, Set, Unset, Scale}
use Rattle.rx_record.specs.Reading.{Reading, ◌▸◌}
use Rattle.rx_record.specs.Parts.{number_bytes, number_of, text_bytes, text_of}
use Rattle.rx_record.specs.Fields.{value_bytes, value_of, list_bytes, rising_of}
use Rattle.rx_record.specs.Kinds.{Kind, by_kind}

-- the byte of a step's kind
abbrev pub rename_kind : ℕ
rename_kind = 0

abbrev pub set_kind : ℕ
set_kind = 1

abbrev pub drop_kind : ℕ
drop_kind = 2

abbrev pub scale_kind : ℕ
scale_kind = 3

-- a step: the byte of its kind, the name of its field, and the name of another, a value, nothing,
-- or the factor in two bytes
abbrev pub step_bytes : Step → List ℕ
step_bytes (Rename field to) = rename_kind ∷ (text_bytes field ++ text_bytes to)
step_bytes (Set field v) = set_kind ∷ (text_bytes field ++ value_bytes v)
step_bytes (Unset field) = drop_kind ∷ text_bytes field
step_bytes (Scale field by) = scale_kind ∷ (text_bytes field ++ number_bytes w16 by)

-- the name of a field
abbrev pub field_of : List ℕ → Reading (List ℕ)
field_of bs = text_of bs ▸ λ t more. if is_field_name t then Ok (t, more) else Err (length bs)

-- a factor
abbrev pub factor_of : List ℕ → Reading ℕ
factor_of bs = number_of w16 bs ▸ λ n more.
    if nat_le 1 n && nat_le n most_by then Ok (n, more) else Err (length bs)

-- what stands behind the byte of each kind
abbrev pub rename_of : List ℕ → Reading Step
rename_of bs = field_of bs ▸ λ field more. field_of more ▸ λ to rest. Ok (Rename field to, rest)

abbrev pub set_of : List ℕ → Reading Step
set_of bs = field_of bs ▸ λ field more. value_of more ▸ λ v rest. Ok (Set field v, rest)

abbrev pub drop_of : List ℕ → Reading Step
drop_of bs = field_of bs ▸ λ field rest. Ok (Unset field, rest)

abbrev pub scale_of : List ℕ → Reading Step
scale_of bs = field_of bs ▸ λ field more. factor_of more ▸ λ by rest. Ok (Scale field by, rest)

abbrev pub step_kinds : List (Kind Step)
step_kinds =
    (rename_kind, rename_of) ∷ (set_kind, set_of) ∷ (drop_kind, drop_of)
    ∷ (scale_kind, scale_of) ∷ []

abbrev pub step_of : List ℕ → Reading Step
step_of = by_kind step_kinds

-- steps: a list of no more than a migration has, in the order in which they are made
abbrev pub steps_bytes : List Step → List ℕ
steps_bytes = list_bytes step_bytes

abbrev pub no_name : Step → Unit {0}
no_name s = tt

abbrev pub any_step_of : Option (Unit {0}) → List ℕ → Reading Step
any_step_of last = step_of

abbrev pub steps_from : ℕ → Option (Unit {0}) → List ℕ → Reading (List Step)
steps_from = rising_of no_name any_step_of

abbrev pub steps_count_of : List ℕ → Reading ℕ
steps_count_of bs = number_of w32 bs ▸ λ n more.
    if nat_le n most_steps then Ok (n, more) else Err (length bs)

abbrev pub steps_of : List ℕ → Reading (List Step)
steps_of bs = steps_count_of bs ▸ λ n more. steps_from n None more
