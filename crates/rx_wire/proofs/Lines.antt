-- From the bytes of a line to the object that it is.
use Rattle.std.proofs.Common.{◌≡◌, ℕ, ◌≤◌, Bool, true, false, cond, List, length, Some, None, Ok, Err, is_some, refl}
use Rattle.std.proofs.lemmas.Bool.{le-leb}
use Rattle.std.proofs.lemmas.Str.{IsUtf8-from_is_utf8, is_utf8-from_IsUtf8}
use Rattle.std.specs.Str.{IsUtf8, is_utf8}
use Rattle.serde_json.specs.Data.{Data}
use Rattle.serde_json.specs.Find.{as_object}
use Rattle.serde_json.specs.Read.{read}
use Rattle.rx_wire.specs.Limits.{longest_line}
use Rattle.rx_wire.specs.Reading.{object_of}
use Rattle.rx_wire.specs.declared.fault.WireFault.TheVariants.{NotJson, NotObject}

-- a line whose JSON is an object is that object
pub object_there : (line : List ℕ) (d : Data) → length line ≤ longest_line → IsUtf8 line
    → read line ≡ Some d → is_some (as_object d) ≡ true → object_of line ≡ Ok d
object_there line d h utf8 e is =
    rw (le-leb (length line) longest_line h, is_utf8-from_IsUtf8 line utf8, e, is) refl

-- and one whose JSON is none is no object
pub object_missing : (line : List ℕ) (d : Data) → length line ≤ longest_line → IsUtf8 line
    → read line ≡ Some d → is_some (as_object d) ≡ false → object_of line ≡ Err NotObject
object_missing line d h utf8 e is =
    rw (le-leb (length line) longest_line h, is_utf8-from_IsUtf8 line utf8, e, is) refl

-- nothing is read of what is no text, or no JSON
unread : (b : Bool) (line : List ℕ) → is_utf8 line ≡ b → (IsUtf8 line → read line ≡ None)
    → cond b (read line) None ≡ None
unread true line h none = none (IsUtf8-from_is_utf8 line h)
unread false line h none = refl

-- a text that can't be read is no JSON
pub not_json : (line : List ℕ) → length line ≤ longest_line → (IsUtf8 line → read line ≡ None)
    → object_of line ≡ Err NotJson
not_json line h none =
    rw (le-leb (length line) longest_line h, unread (is_utf8 line) line refl none) refl
