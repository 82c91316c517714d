-- What the lines of output have in common.
use Rattle.std.specs.Prelude.{ℕ, List, [], ◌∷◌, ◌++◌, map, codes, Option, Some, None}
use Rattle.json.specs.Token.{Token, key}
use Rattle.json.specs.Tree.{json_tokens}
use Rattle.serde_json.specs.Data.{Data, number, unsigned, string, array, object, Members, no_members, member}
use Rattle.serde_json.specs.View.{items_of}
use Rattle.serde_json.specs.Written.{compact_text, outline}
use Rattle.rx_document.specs.declared.place.Place.{Place}

abbrev pub number_data : ℕ → Data
number_data n = number (unsigned n)

-- a list of these
abbrev pub list_data : {X : Type 0} → (X → Data) → List X → Data
list_data data_of xs = array (items_of (map data_of xs))

-- a member in front of others, where there is one
abbrev pub optional_member : List ℕ → Option Data → Members → Members
optional_member name None more = more
optional_member name (Some d) more = member name d more

-- the tokens of a member, where there is one
abbrev pub member_tokens : List ℕ → Option Data → List Token
member_tokens name None = []
member_tokens name (Some d) = key name ∷ json_tokens (outline d)

-- where a document stands in the order of writing
abbrev pub place_data : Place → Data
place_data p = object
    (member (codes "id") (string p.id)
    (member (codes "lwt") (number_data p.lwt) no_members))

-- the compact text of an object, and a line feed
abbrev pub output_line : Data → List ℕ
output_line d = compact_text d ++ 10 ∷ []
