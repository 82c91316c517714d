-- What a JSON value says as a schema, or its first fault.
use Rattle.std.specs.Prelude.{⊤, ℕ, nat_le, sum_by, filter, List, [], ◌∷◌, length, Bool, true, false, not, ◌&&◌, ◌||◌, codes, Option, Some, None, is_some, Result, Ok}
use Rattle.std.specs.Map.{keys_of}
use Rattle.std.specs.Str.{bytes_eq}
use Rattle.rx_value.specs.Due.{◌>>◌, ◌>>=◌, demand, or_fault, only_if}
use Rattle.rx_value.specs.Form.{is_among, text_at, whole_within, unexpected}
use Rattle.serde_json.specs.Data.{Data, Members, no_members, member}
use Rattle.serde_json.specs.Find.{get, as_bool, as_object}
use Rattle.rx_schema.specs.Names.{property_at, required_of, indexes_of}
use Rattle.rx_schema.specs.Property.{no_keyword, says, told, most_code_points, property_of}
use Rattle.rx_schema.specs.declared.fault.SchemaFault.{SchemaFault}
use Rattle.rx_schema.specs.declared.fault.SchemaFault.TheVariants.{NotObject, Keyword, Version, Primary, TooMany}
use Rattle.rx_schema.specs.declared.rule.Rule.{Rule}
use Rattle.rx_schema.specs.declared.rule.Rule.TheVariants as rule
use Rattle.rx_schema.specs.declared.shape.Shape.{Shape}

-- ---- limits

-- the most properties
abbrev pub most_properties : ℕ
most_properties = 64

-- the most indexes
abbrev pub most_indexes : ℕ
most_indexes = 16

-- the greatest version
abbrev pub most_version : ℕ
most_version = 65535

-- ---- the tests in their order

-- 1. it is an object
abbrev pub an_object : Data → Result ⊤ SchemaFault
an_object d = demand (is_some (as_object d)) NotObject

-- the words of a schema
abbrev pub schema_words : List (List ℕ)
schema_words =
    codes "version" ∷ codes "primaryKey" ∷ codes "type" ∷ codes "properties" ∷ codes "required"
    ∷ codes "indexes" ∷ codes "title" ∷ codes "description" ∷ codes "keyCompression" ∷ []

-- nothing is given, or false
abbrev pub is_off : Option Data → Bool
is_off None = true
is_off (Some d) = is_some (as_bool d >>= λ b. only_if (not b) (Some b))

-- 2. its words are known and in their form; then there are the members of `properties`
abbrev pub known_schema : Data → Result Members SchemaFault
known_schema d =
    no_keyword (unexpected [] schema_words d) >> λ _.
    demand (says (codes "type") (codes "object") d) (Keyword (codes "type")) >> λ _.
    or_fault (Keyword (codes "properties")) (get (codes "properties") d >>= as_object) >> λ ms.
    demand (is_off (get (codes "keyCompression") d)) (Keyword (codes "keyCompression")) >> λ _.
    told (codes "title") d >> λ _. told (codes "description") d >> λ _. Ok ms

-- 3. it has a version
abbrev pub version_of : Data → Result ℕ SchemaFault
version_of d = or_fault Version (whole_within (codes "version") 0 most_version d)

-- 4. its properties, by rising name: the first at fault decides
abbrev pub properties_of : Members → Result (List (List ℕ × Rule)) SchemaFault
properties_of no_members = Ok []
properties_of (member name d ms) =
    property_of name d >> λ r. properties_of ms >> λ ps. Ok ((name, r) ∷ ps)

-- a text with a length
abbrev pub is_key : Option Data → Bool
is_key None = false
is_key (Some p) = says (codes "type") (codes "string") p && is_some (get (codes "maxLength") p)

-- 5. its primary key names a text with a length
abbrev pub primary_of : Data → Result (List ℕ) SchemaFault
primary_of d =
    or_fault Primary
    (text_at (codes "primaryKey") d >>= λ key. only_if (is_key (property_at key d)) (Some key))

-- the code points that a property may take
abbrev pub code_points_of : Rule → ℕ
code_points_of rule.Flag = 0
code_points_of (rule.Int b) = 0
code_points_of (rule.Text most) = most

-- 8. it has few properties and indexes, and its texts are short together
abbrev pub few_enough : List (List ℕ × Rule) → List (List (List ℕ)) → Result ⊤ SchemaFault
few_enough ps is =
    demand
    (nat_le (length ps) most_properties && nat_le (length is) most_indexes
    && nat_le (sum_by (λ p. code_points_of p.1) ps) most_code_points)
    TooMany

-- the names of the properties that are required: the primary key and those listed
abbrev pub required_names : List ℕ → List (List ℕ) → List (List ℕ × Rule) → List (List ℕ)
required_names primary listed ps =
    filter (λ name. bytes_eq name primary || is_among listed name) (keys_of ps)

-- the schema; required names are the 6th test, indexes the 7th
abbrev pub schema_of : Data → Result Shape SchemaFault
schema_of d =
    an_object d >> λ _.
    known_schema d >> λ ms.
    version_of d >> λ version.
    properties_of ms >> λ properties.
    primary_of d >> λ primary.
    required_of d >> λ listed.
    indexes_of d >> λ indexes.
    few_enough properties indexes >> λ _.
    Ok (record {
      version = version;
      primary = primary;
      properties = properties;
      required = required_names primary listed properties;
      indexes = indexes;
    })
