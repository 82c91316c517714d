-- Names in the members of a schema, and the properties that they name.
use Rattle.std.specs.Prelude.{ℕ, nat_le, List, [], ◌∷◌, length, Bool, true, false, not, ◌&&◌, codes, Option, Some, None, is_some, is_none, Result, Ok, if◌then◌else◌}
use Rattle.std.specs.List.{find, list_all}
use Rattle.std.specs.Option.{option_or}
use Rattle.rx_value.specs.Due.{◌>>◌, ◌>>=◌, or_fault, only_if, unless}
use Rattle.rx_value.specs.Form.{is_among}
use Rattle.rx_value.specs.Name.{is_field_name}
use Rattle.serde_json.specs.Data.{Data, null, boolean, number, string, array, object, Items, no_items, item}
use Rattle.serde_json.specs.Find.{get, as_str, as_array}
use Rattle.rx_schema.specs.Property.{says}
use Rattle.rx_schema.specs.declared.fault.SchemaFault.{SchemaFault}
use Rattle.rx_schema.specs.declared.fault.SchemaFault.TheVariants.{Required, Index}

-- the texts of a list that holds nothing else
abbrev pub texts_of : Items → Option (List (List ℕ))
texts_of no_items = Some []
texts_of (item d ds) = as_str d >>= λ s. texts_of ds >>= λ ss. Some (s ∷ ss)

-- the property of that name, as JSON
abbrev pub property_at : List ℕ → Data → Option Data
property_at name d = get (codes "properties") d >>= get name

-- ---- required

-- the first of the names that is no property
abbrev pub first_stranger : Data → List (List ℕ) → Option (List ℕ)
first_stranger d names = find (λ name. is_none (property_at name d)) names

-- the names that a list holds
abbrev pub listed_of : Data → Option (List (List ℕ))
listed_of d = as_array d >>= texts_of

-- the required names as they are listed, each a property; none where there is no list
abbrev pub required_in : Data → Option Data → Result (List (List ℕ)) SchemaFault
required_in d None = Ok []
required_in d (Some l) =
    or_fault (Required (codes "required")) (listed_of l) >> λ names.
    unless Required (first_stranger d names) (Ok names)

-- the required names of a schema
abbrev pub required_of : Data → Result (List (List ℕ)) SchemaFault
required_of d =
    required_in d (get (codes "required") d)

-- ---- indexes

-- the most fields of an index
abbrev pub most_index_fields : ℕ
most_index_fields = 8

-- no name comes twice
abbrev pub are_distinct : List (List ℕ) → Bool
are_distinct [] = true
are_distinct (name ∷ names) = not (is_among names name) && are_distinct names

-- from one to eight distinct field names
abbrev pub is_index : List (List ℕ) → Bool
is_index [] = false
is_index (name ∷ names) =
    nat_le (length (name ∷ names)) most_index_fields
    && list_all is_field_name (name ∷ names) && are_distinct (name ∷ names)

-- an index is given as a field name or as a list of them
abbrev pub given_names : Data → Option (List (List ℕ))
given_names (string s) = Some (s ∷ [])
given_names (array ds) = texts_of ds
given_names null = None
given_names (boolean b) = None
given_names (number n) = None
given_names (object _) = None

-- the fields of an index
abbrev pub index_of : Data → Option (List (List ℕ))
index_of d = given_names d >>= λ names. only_if (is_index names) (Some names)

-- the fields of each index of a list
abbrev pub each_index : Items → Option (List (List (List ℕ)))
each_index no_items = Some []
each_index (item d ds) = index_of d >>= λ i. each_index ds >>= λ is. Some (i ∷ is)

-- a text needs its length, a number all its bounds
abbrev pub is_bounded : Data → Bool
is_bounded p =
    if says (codes "type") (codes "boolean") p then true else
    (if says (codes "type") (codes "string") p then is_some (get (codes "maxLength") p) else
    is_some (get (codes "minimum") p) && is_some (get (codes "maximum") p)
    && is_some (get (codes "multipleOf") p))

-- what may be indexed: a property with its bounds
abbrev pub is_bounded_if : Option Data → Bool
is_bounded_if None = false
is_bounded_if (Some p) = is_bounded p

-- the first of the names that may not be indexed
abbrev pub first_unbounded : Data → List (List ℕ) → Option (List ℕ)
first_unbounded d names = find (λ name. not (is_bounded_if (property_at name d))) names

-- the first in all indexes
abbrev pub first_unbounded_in : Data → List (List (List ℕ)) → Option (List ℕ)
first_unbounded_in d [] = None
first_unbounded_in d (names ∷ is) =
    option_or (first_unbounded d names) (first_unbounded_in d is)

-- the fields of the indexes of a list
abbrev pub index_list_of : Data → Option (List (List (List ℕ)))
index_list_of d = as_array d >>= each_index

-- first all forms are tested, then all names; there is no index where there is no list
abbrev pub indexes_in : Data → Option Data → Result (List (List (List ℕ))) SchemaFault
indexes_in d None = Ok []
indexes_in d (Some l) =
    or_fault (Index (codes "indexes")) (index_list_of l) >> λ indexes.
    unless Index (first_unbounded_in d indexes) (Ok indexes)

-- the indexes of a schema
abbrev pub indexes_of : Data → Result (List (List (List ℕ))) SchemaFault
indexes_of d = indexes_in d (get (codes "indexes") d)
