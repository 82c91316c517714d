-- A property: what its JSON says of the values that it takes.
use Rattle.std.specs.Prelude.{⊤, ℕ, ℤ, pos, negsuc, ◌-◌, int_le, List, [], ◌∷◌, Bool, true, false, ◌||◌, codes, Option, Some, None, is_some, is_none, option_map, Result, Ok, if◌then◌else◌}
use Rattle.std.specs.Str.{bytes_eq}
use Rattle.rx_value.specs.Due.{◌>>◌, ◌>>=◌, demand, or_fault, only_if, unless}
use Rattle.rx_value.specs.Form.{text_at, whole_within, integer_within, unexpected}
use Rattle.rx_value.specs.Name.{is_field_name}
use Rattle.rx_value.specs.Value.{largest}
use Rattle.rx_value.specs.declared.kinds.Kind.{Kind}
use Rattle.rx_value.specs.declared.kinds.Kind.TheVariants as kind
use Rattle.serde_json.specs.Data.{Data}
use Rattle.serde_json.specs.Find.{get}
use Rattle.rx_schema.specs.declared.fault.SchemaFault.{SchemaFault}
use Rattle.rx_schema.specs.declared.fault.SchemaFault.TheVariants as fault
use Rattle.rx_schema.specs.declared.rule.Bounds.{Bounds}
use Rattle.rx_schema.specs.declared.rule.Rule.{Rule}
use Rattle.rx_schema.specs.declared.rule.Rule.TheVariants as rule

-- the most code points of a text, and of all texts of a document together
abbrev pub most_code_points : ℕ
most_code_points = 131072

-- the code points of a text whose length isn't given
abbrev pub usual_code_points : ℕ
usual_code_points = 8192

-- no word is at fault
abbrev pub no_keyword : Option (List ℕ) → Result ⊤ SchemaFault
no_keyword word = unless fault.Keyword word (Ok tt)

-- there is that word
abbrev pub is_word : List ℕ → Option (List ℕ) → Bool
is_word word None = false
is_word word (Some s) = bytes_eq s word

-- the text at that name is that word
abbrev pub says : List ℕ → List ℕ → Data → Bool
says name word d = is_word word (text_at name d)

-- what is given at that name is a text
abbrev pub told : List ℕ → Data → Result ⊤ SchemaFault
told name d = demand (is_none (get name d) || is_some (text_at name d)) (fault.Keyword name)

-- the kind of a type; a number has to be a multiple of a whole number
abbrev pub kind_called : Data → List ℕ → Option Kind
kind_called d type =
    if bytes_eq type (codes "string") then Some kind.Text else
    (if bytes_eq type (codes "integer") then Some kind.Int else
    (if bytes_eq type (codes "number") then only_if (is_some (get (codes "multipleOf") d))
    (Some kind.Int) else
    (if bytes_eq type (codes "boolean") then Some kind.Flag else None)))

-- the kind of a property
abbrev pub kind_of : Data → Option Kind
kind_of d = text_at (codes "type") d >>= kind_called d

-- the words that a property of a kind may have beside its type
abbrev pub property_words : Kind → List (List ℕ)
property_words kind.Flag = codes "title" ∷ codes "description" ∷ codes "format" ∷ []
property_words kind.Int =
    codes "title" ∷ codes "description" ∷ codes "format" ∷ codes "minimum" ∷ codes "maximum"
    ∷ codes "multipleOf" ∷ []
property_words kind.Text =
    codes "title" ∷ codes "description" ∷ codes "format" ∷ codes "maxLength" ∷ []

-- a property has no other word, and those that explain it are texts
abbrev pub known_property : Kind → Data → Result ⊤ SchemaFault
known_property k d =
    no_keyword (unexpected (codes "type" ∷ []) (property_words k) d) >> λ _.
    told (codes "title") d >> λ _. told (codes "description") d >> λ _. told (codes "format") d

-- the longest text, which may be left out
abbrev pub length_of : Data → Option ℕ
length_of d =
    if is_none (get (codes "maxLength") d) then Some usual_code_points
    else whole_within (codes "maxLength") 1 most_code_points d

-- a whole number that may be left out
abbrev pub bound_at : List ℕ → ℤ → Data → Option (Option ℤ)
bound_at name low d =
    if is_none (get name d) then Some None
    else option_map Some (integer_within name low (pos largest) d)

-- the first isn't above the second, where both are given
abbrev pub is_range : Option ℤ → Option ℤ → Bool
is_range (Some low) (Some high) = int_le low high
is_range (Some low) None = true
is_range None high = true

-- the bounds of numbers
abbrev pub bounds_of : Data → Option Bounds
bounds_of d =
    bound_at (codes "minimum") (negsuc (largest - 1)) d >>= λ low.
    bound_at (codes "maximum") (negsuc (largest - 1)) d >>= λ high.
    bound_at (codes "multipleOf") (pos 1) d >>= λ step.
    only_if (is_range low high) (Some (record {
      minimum = low;
      maximum = high;
      multiple_of =
          step;
    }))

-- what values a property of a kind takes
abbrev pub rule_of : Kind → Data → Option Rule
rule_of kind.Flag d = Some rule.Flag
rule_of kind.Int d = option_map rule.Int (bounds_of d)
rule_of kind.Text d = option_map rule.Text (length_of d)

-- a property: its name, its kind, its words, its bounds
abbrev pub property_of : List ℕ → Data → Result Rule SchemaFault
property_of name d =
    demand (is_field_name name) (fault.FieldName name) >> λ _.
    or_fault (fault.Kind name) (kind_of d) >> λ k.
    known_property k d >> λ _.
    or_fault (fault.Bounds name) (rule_of k d)
