-- The canonical text of a schema, its hash, and the kinds of its properties.
use Rattle.std.specs.Prelude.{ℕ, ℤ, List, [], ◌∷◌, map, codes, Option, Some, None}
use Rattle.hex.specs.Hex.{encode_lower}
use Rattle.rx_value.specs.declared.kinds.Kind.{Kind}
use Rattle.rx_value.specs.declared.kinds.Kind.TheVariants as kind
use Rattle.serde_json.specs.Data.{Data, unsigned, number, string, array, object, Members, no_members, member}
use Rattle.serde_json.specs.Find.{of_integer}
use Rattle.serde_json.specs.View.{items_of}
use Rattle.serde_json.specs.Written.{compact_text}
use Rattle.sha2.specs.Sha256.{sha256}
use Rattle.rx_schema.specs.declared.rule.Rule.{Rule}
use Rattle.rx_schema.specs.declared.rule.Rule.TheVariants as rule
use Rattle.rx_schema.specs.declared.shape.Shape.{Shape}

-- the list of these names
abbrev pub names_data : List (List ℕ) → Data
names_data names = array (items_of (map string names))

-- a member for the number, if it is given
abbrev pub bound_member : List ℕ → Option ℤ → Members → Members
bound_member name None ms = ms
bound_member name (Some n) ms = member name (number (of_integer n)) ms

-- a property: its type, its bounds as given, and for a text always its length
abbrev pub rule_members : Rule → Members
rule_members rule.Flag = member (codes "type") (string (codes "boolean")) no_members
rule_members (rule.Int b) =
    bound_member (codes "maximum") b.maximum
    (bound_member (codes "minimum") b.minimum
    (bound_member (codes "multipleOf") b.multiple_of
    (member (codes "type") (string (codes "integer")) no_members)))
rule_members (rule.Text most) =
    member (codes "maxLength") (number (unsigned most))
    (member (codes "type") (string (codes "string")) no_members)

-- the object of the properties
abbrev pub properties_members : List (List ℕ × Rule) → Members
properties_members [] = no_members
properties_members (p ∷ ps) = member p.0 (object (rule_members p.1)) (properties_members ps)

-- the object of a schema: indexes as given, required names rising
abbrev pub schema_data : Shape → Data
schema_data s = object
    (member (codes "indexes") (array (items_of (map names_data s.indexes)))
    (member (codes "primaryKey") (string s.primary)
    (member (codes "properties") (object (properties_members s.properties))
    (member (codes "required") (names_data s.required)
    (member (codes "type") (string (codes "object"))
    (member (codes "version") (number (unsigned s.version)) no_members))))))

-- the canonical text
abbrev pub canonical_text : Shape → List ℕ
canonical_text s = compact_text (schema_data s)

-- its SHA-256 in lower-case hex
abbrev pub hash_text : Shape → List ℕ
hash_text s = encode_lower (sha256 (canonical_text s))

-- the kind of the values of a rule
abbrev pub kind_of_rule : Rule → Kind
kind_of_rule rule.Flag = kind.Flag
kind_of_rule (rule.Int b) = kind.Int
kind_of_rule (rule.Text most) = kind.Text

-- the kind of each property
abbrev pub kinds_of : List (List ℕ × Rule) → List (List ℕ × Kind)
kinds_of ps = map (λ p. (p.0, kind_of_rule p.1)) ps
