-- The members of a line, their kinds, names and limits.
use Rattle.std.specs.Prelude.{⊤, ℕ, List, [], ◌∷◌, codes, ◌&&◌, ◌||◌, Bool, is_some, is_none, if◌then◌else◌, Option, Some, None, option_map, unwrap_or, Result, Ok}
use Rattle.std.specs.List.{list_all}
use Rattle.serde_json.specs.Data.{Data, null, Items, no_items, item}
use Rattle.serde_json.specs.Find.{get, as_array, as_object}
use Rattle.rx_value.specs.Due.{◌>>◌, ◌>>=◌, demand, lifted, or_fault, unless}
use Rattle.rx_value.specs.Form.{missing, unexpected, text_at, whole_at, whole_within}
use Rattle.rx_value.specs.Name.{is_name}
use Rattle.rx_value.specs.Named.{named}
use Rattle.rx_value.specs.Value.{largest}
use Rattle.rx_migrate.specs.Reading.{steps_of}
use Rattle.rx_migrate.specs.declared.step.Step.{Step}
use Rattle.rx_update.specs.declared.attached.When.{When}
use Rattle.rx_update.specs.declared.attached.When.TheVariants as when
use Rattle.rx_script.specs.declared.fault.LineFault.{LineFault}
use Rattle.rx_script.specs.declared.fault.LineFault.TheVariants as fault

-- ---- which members there are

-- each of the needed ones is there
abbrev pub has_needed : List (List ℕ) → Data → Result ⊤ LineFault
has_needed needed d = unless fault.Missing (missing needed d) (Ok tt)

-- and there is no other but those that may be missing
abbrev pub has_form : List (List ℕ) → List (List ℕ) → Data → Result ⊤ LineFault
has_form needed optional d =
    has_needed needed d >> λ _.
    unless fault.Unexpected (unexpected needed optional d) (Ok tt)

-- ---- of which kind a member is

-- what stands at a name; null where nothing does
abbrev pub json_at : List ℕ → Data → Data
json_at name d = unwrap_or (get name d) null

abbrev pub is_object : Data → Bool
is_object d = is_some (as_object d)

abbrev pub listed : Items → List Data
listed no_items = []
listed (item d ds) = d ∷ listed ds

-- the items of a list; what is none has none
abbrev pub items_of : Data → List Data
items_of d = unwrap_or (option_map listed (as_array d)) []

-- a list of objects
abbrev pub are_objects : Data → Bool
are_objects d = is_some (as_array d) && list_all is_object (items_of d)

-- a text
abbrev pub a_text : List ℕ → Data → Result (List ℕ) LineFault
a_text name d = or_fault (fault.WrongType name) (text_at name d)

-- a text that may be missing
abbrev pub maybe_text : List ℕ → Data → Result (Option (List ℕ)) LineFault
maybe_text name d =
    if is_none (get name d) then Ok None else (a_text name d >> λ text. Ok (Some text))

-- an object
abbrev pub an_object : List ℕ → Data → Result ⊤ LineFault
an_object name d = demand (is_object (json_at name d)) (fault.WrongType name)

-- a list of objects
abbrev pub objects : List ℕ → Data → Result ⊤ LineFault
objects name d = demand (are_objects (json_at name d)) (fault.WrongType name)

-- a moment
abbrev pub a_moment : List ℕ → Data → Result ℕ LineFault
a_moment name d = or_fault (fault.WrongType name) (whole_within name 0 largest d)

-- a whole number, however great, that may be missing
abbrev pub maybe_whole : List ℕ → Data → Result ⊤ LineFault
maybe_whole name d =
    demand (is_none (get name d) || is_some (whole_at name d)) (fault.WrongType name)

-- the writes before which a hook stands, by their words
abbrev pub whens : List (List ℕ × When)
whens =
    (codes "insert", when.Insert) ∷ (codes "save", when.Save) ∷ (codes "remove", when.Remove) ∷ []

abbrev pub when_of : Option (List ℕ) → Option When
when_of word = word >>= named whens

abbrev pub a_when : List ℕ → Data → Result When LineFault
a_when name d = or_fault (fault.WrongType name) (when_of (text_at name d))

-- the steps of a migration
abbrev pub some_steps : List ℕ → Data → Result (List Step) LineFault
some_steps name d = lifted (λ _. fault.WrongType name) (steps_of (json_at name d))

-- ---- the text of a member is a name

abbrev pub a_name : List ℕ → List ℕ → Result ⊤ LineFault
a_name member text = demand (is_name text) (fault.Name member)

-- ---- the number of a member is within its limits

-- from 1 to the most; where it is missing, the number that is meant
abbrev pub a_count : List ℕ → ℕ → ℕ → Data → Result ℕ LineFault
a_count name most meant d =
    if is_none (get name d) then Ok meant
    else or_fault (fault.Batch name) (whole_within name 1 most d)
