-- A member of an object.
use Rattle.std.proofs.Common.{◌≡◌, ℕ, List, Option, Some, None, option_map, refl, rules}
use Rattle.std.specs.Option.{unwrap_or}
use Rattle.serde_json.specs.Data.{Data, null, boolean, number, string, array, object, Members}
use Rattle.serde_json.specs.Find.{get, get_member, as_object}
use Rattle.serde_json.specs.View.{view}
use Rattle.serde_json.specs.declared.value.Value.{Value, Null, the_lemmas}
use Rattle.rx_script.specs.Member.{json_at}

-- a look-up in an object goes to its members
pub get-object : (name : List ℕ) (d : Data) (ms : Members) → Some ms ≡ as_object d
    → get_member name ms ≡ get name d
get-object name null ms h = cc
get-object name (boolean b) ms h = cc
get-object name (number n) ms h = cc
get-object name (string s) ms h = cc
get-object name (array ds) ms h = cc
get-object name (object os) ms h = cc

-- what was found, or null
pub found_or_null : (o : Option Value) (name : List ℕ) (d : Data) → option_map view o ≡ get name d
    → view (unwrap_or o Null) ≡ json_at name d
found_or_null (Some v) name d e = rw (← e) refl
found_or_null None name d e = rw (← e) (search (rules, the_lemmas))
