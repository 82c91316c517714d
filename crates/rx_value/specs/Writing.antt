-- The JSON object of fields.
use Rattle.std.specs.Prelude.{List, [], ◌∷◌, ◌++◌}
use Rattle.json.specs.Token.{Token, key}
use Rattle.json.specs.Tree.{json_tokens}
use Rattle.serde_json.specs.Data.{Data, boolean, number, string, object, Members, no_members, member}
use Rattle.serde_json.specs.Find.{of_integer}
use Rattle.serde_json.specs.Written.{outline}
use Rattle.rx_value.specs.Fields.{Pairs}
use Rattle.rx_value.specs.declared.value.Value.{Value}
use Rattle.rx_value.specs.declared.value.Value.TheVariants.{Flag, Int, Text}

-- a value as JSON
abbrev pub value_data : Value → Data
value_data (Flag b) = boolean b
value_data (Int z) = number (of_integer z)
value_data (Text s) = string s

-- a member for each pair
abbrev pub pairs_members : Pairs → Members
pairs_members [] = no_members
pairs_members (p ∷ ps) = member p.0 (value_data p.1) (pairs_members ps)

-- the object of these
abbrev pub fields_data : Pairs → Data
fields_data ps = object (pairs_members ps)

-- the tokens of the members of these, without the braces
abbrev pub pairs_tokens : Pairs → List Token
pairs_tokens [] = []
pairs_tokens (p ∷ ps) = key p.0 ∷ (json_tokens (outline (value_data p.1)) ++ pairs_tokens ps)
