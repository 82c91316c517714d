-- Reading the steps of a JSON list.
use Rattle.std.specs.Prelude.{⊤, ℕ, List, [], ◌∷◌, ◌++◌, length, codes, is_none, is_some, nat_lt}
use Rattle.std.specs.Prelude.{if◌then◌else◌, Result, Ok}
use Rattle.serde_json.specs.Data.{Data, Items, no_items, item}
use Rattle.serde_json.specs.Find.{get, as_array}
use Rattle.rx_value.specs.Due.{◌>>◌, demand, lifted, or_fault}
use Rattle.rx_value.specs.Form.{unexpected, text_at, whole_within}
use Rattle.rx_value.specs.Named.{named}
use Rattle.rx_value.specs.Reading.{fields_of}
use Rattle.rx_value.specs.declared.value.Value.{Value}
use Rattle.rx_migrate.specs.Fault.{steps_fault}
use Rattle.rx_migrate.specs.Step.{is_step, most_by, most_steps}
use Rattle.rx_migrate.specs.declared.fault.StepsFault.{StepsFault}
use Rattle.rx_migrate.specs.declared.fault.StepsFault.TheVariants.{NotSteps}
use Rattle.rx_migrate.specs.declared.step.Step.{Step}
use Rattle.rx_migrate.specs.declared.step.Step.TheVariants.{Rename, Set, Unset, Scale}

-- there is no member but these
abbrev pub has_only : List (List ℕ) → Data → Result ⊤ StepsFault
has_only members d = demand (is_none (unexpected members [] d)) NotSteps

-- the text at a name
abbrev pub a_text : List ℕ → Data → Result (List ℕ) StepsFault
a_text name d = or_fault NotSteps (text_at name d)

-- the value at a name, of an object whose members are all values
abbrev pub a_value : List ℕ → Data → Result Value StepsFault
a_value name d = lifted steps_fault (fields_of d) >> λ ps. or_fault NotSteps (named ps name)

-- a factor at a name
abbrev pub a_factor : List ℕ → Data → Result ℕ StepsFault
a_factor name d = or_fault NotSteps (whole_within name 1 most_by d)

-- {"rename":F,"to":G}
abbrev pub a_rename : Data → Result Step StepsFault
a_rename d =
    has_only (codes "rename" ∷ codes "to" ∷ []) d >> λ _. a_text (codes "rename") d >> λ field.
    a_text (codes "to") d >> λ to. Ok (Rename field to)

-- {"set":F,"value":V}
abbrev pub a_set : Data → Result Step StepsFault
a_set d =
    has_only (codes "set" ∷ codes "value" ∷ []) d >> λ _. a_text (codes "set") d >> λ field.
    a_value (codes "value") d >> λ v. Ok (Set field v)

-- {"drop":F}
abbrev pub a_drop : Data → Result Step StepsFault
a_drop d =
    has_only (codes "drop" ∷ []) d >> λ _. a_text (codes "drop") d >> λ field. Ok (Unset field)

-- {"scale":F,"by":B}
abbrev pub a_scale : Data → Result Step StepsFault
a_scale d =
    has_only (codes "scale" ∷ codes "by" ∷ []) d >> λ _. a_text (codes "scale") d >> λ field.
    a_factor (codes "by") d >> λ by. Ok (Scale field by)

-- one of the four, by the member that no other has
abbrev pub a_form : Data → Result Step StepsFault
a_form d =
    if is_some (get (codes "rename") d) then a_rename d
    else if is_some (get (codes "set") d) then a_set d
    else if is_some (get (codes "drop") d) then a_drop d
    else a_scale d

-- a step that a line takes
abbrev pub step_of : Data → Result Step StepsFault
step_of d = a_form d >> λ s. demand (is_step s) NotSteps >> λ _. Ok s

-- those of items, after the ones so far, while there is room
abbrev pub steps_after : List Step → Items → Result (List Step) StepsFault
steps_after ss no_items = Ok ss
steps_after ss (item d ds) =
    demand (nat_lt (length ss) most_steps) NotSteps >> λ _. step_of d >> λ s.
    steps_after (ss ++ s ∷ []) ds

-- a list of at most 64 steps
abbrev pub steps_of : Data → Result (List Step) StepsFault
steps_of d = or_fault NotSteps (as_array d) >> steps_after []
