-- Steps of a migration that were read.
use Rattle.std.proofs.Common.{◌≡◌, ◌≤◌, ◌∷◌, ◌++◌, Bool, true, ◌&&◌, Option, refl, leb, leb-true, w16, w32}
use Rattle.std.specs.List.{AllByRecursion}
use Rattle.std.proofs.lemmas.Bool.{and_parts}
use Rattle.rx_value.specs.Name.{is_field_name}
use Rattle.rx_migrate.specs.Step.{most_by, most_steps}
use Rattle.rx_migrate.specs.declared.step.Step.{Step}
use Rattle.rx_migrate.specs.declared.step.Step.TheVariants.{Rename, Set, Unset, Scale}
use Rattle.rx_record.specs.Parts.{number_bytes, text_bytes}
use Rattle.rx_record.specs.Kinds.{Kind}
use Rattle.rx_record.specs.Steps.{rename_kind, set_kind, drop_kind, scale_kind, step_bytes, field_of, factor_of, rename_of, set_of, drop_of, scale_of, step_kinds, step_of, no_name, any_step_of, steps_bytes, steps_count_of, steps_of}
use Rattle.rx_record.specs.Writable.{Fits, IsWritableStep, AreWritableSteps}
use Rattle.rx_record.proofs.Kept.{chain_keeps}
use Rattle.rx_record.proofs.Formats.{IsFormat, next, last, tested_format, text_format, short_format, count_format, value_format}
use Rattle.rx_record.proofs.ByKind.{IsKind, kinds_format}
use Rattle.rx_record.proofs.ListFormats.{list_format}

-- the name of a field
field_format : IsFormat text_bytes field_of (λ t. (is_field_name t ≡ true) × Fits t)
field_format = tested_format text_format is_field_name _ (λ t name fits. (name, fits))

factor_format : IsFormat (number_bytes w16) factor_of (λ n. (leb 1 n && leb n most_by) ≡ true)
factor_format = tested_format short_format (λ n. leb 1 n && leb n most_by) _ (λ n within _. within)

abbrev IsStepKind : Kind Step → Type 0
IsStepKind = IsKind step_bytes IsWritableStep

-- both hold
both : (a b : Bool) → a ≡ true → b ≡ true → (a && b) ≡ true
both a b is also = rw (is, also) refl

rename_is_kind : IsStepKind (rename_kind, rename_of)
rename_is_kind =
    next step_bytes IsWritableStep field_format (λ l. rename_kind ∷ l) _ (λ field first.
    last step_bytes IsWritableStep field_format (λ l. rename_kind ∷ (text_bytes field ++ l))
    (λ to. Rename field to)
    (λ to. refl) (λ to second. record {
      step = both (is_field_name field) (is_field_name to) first.0 second.0;
      fits = (first.1, second.1);
    }))

set_is_kind : IsStepKind (set_kind, set_of)
set_is_kind =
    next step_bytes IsWritableStep field_format (λ l. set_kind ∷ l) _ (λ field first.
    last step_bytes IsWritableStep value_format (λ l. set_kind ∷ (text_bytes field ++ l))
    (λ v. Set field v) (λ v. refl)
    (λ v second. record { step = rw (first.0, second.0) refl; fits = (first.1, second.1) }))

drop_is_kind : IsStepKind (drop_kind, drop_of)
drop_is_kind =
    last step_bytes IsWritableStep field_format (λ l. drop_kind ∷ l) (λ field. Unset field)
    (λ field. refl) (λ field first. record { step = first.0; fits = first.1 })

scale_is_kind : IsStepKind (scale_kind, scale_of)
scale_is_kind =
    next step_bytes IsWritableStep field_format (λ l. scale_kind ∷ l) _ (λ field first.
    last step_bytes IsWritableStep factor_format (λ l. scale_kind ∷ (text_bytes field ++ l))
    (λ by. Scale field by)
    (λ by. refl) (λ by second. record {
      step =
          let parts = and_parts (leb 1 by) (leb by most_by) second in
          rw (first.0, parts.0, parts.1) refl;
      fits = first.1;
    }))

all_are_steps : AllByRecursion IsStepKind step_kinds
all_are_steps = (rename_is_kind, (set_is_kind, (drop_is_kind, (scale_is_kind, tt))))

pub step_format : IsFormat step_bytes step_of IsWritableStep
step_format = kinds_format step_bytes IsWritableStep step_kinds all_are_steps

-- how many there are
steps_count_format : IsFormat (number_bytes w32) steps_count_of (λ n. n ≤ most_steps)
steps_count_format =
    tested_format count_format (λ n. leb n most_steps) _ (λ n few _. leb-true n most_steps few)

-- a step follows any other
abbrev pub always_above : Option (Unit {0}) → Unit {0} → Bool
always_above last x = true

pub steps_format : IsFormat steps_bytes steps_of AreWritableSteps
steps_format =
    list_format step_bytes no_name any_step_of always_above IsWritableStep
    (λ last. record {
      within = step_format.within;
      read = step_format.read;
      keeps = λ bs s rest small h. (refl, step_format.keeps bs s rest small h);
    })
    steps_count_of steps_count_format AreWritableSteps
    (λ steps few chain. record {
      few = few;
      each = chain_keeps step_bytes no_name any_step_of always_above IsWritableStep _ steps chain;
    })
