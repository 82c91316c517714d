-- From the bytes of a line to the object that it is.
use Rattle.std.proofs.Common.{◌≡◌, ℕ, ◌≤◌, Bool, true, false, cond, List, length, Some, None, Ok, Err, refl}
use Rattle.std.proofs.lemmas.Bool.{le-leb}
use Rattle.std.proofs.lemmas.Str.{IsUtf8-from_is_utf8, is_utf8-from_IsUtf8}
use Rattle.std.specs.Str.{IsUtf8, is_utf8}
use Rattle.serde_json.specs.Data.{Data}
use Rattle.serde_json.specs.Read.{read}
use Rattle.rx_script.specs.Member.{is_object}
use Rattle.rx_script.specs.Line.{object_of, max_line_bytes}
use Rattle.rx_script.specs.declared.fault.LineFault.TheVariants.{NotJson, NotObject}

-- a line whose JSON is an object is that object
pub an_object : (bytes : List ℕ) (d : Data) → length bytes ≤ max_line_bytes → IsUtf8 bytes
    → read bytes ≡ Some d → is_object d ≡ true → object_of bytes ≡ Ok d
an_object bytes d h utf8 e is =
    rw (le-leb (length bytes) max_line_bytes h, is_utf8-from_IsUtf8 bytes utf8, e, is) refl

pub no_object : (bytes : List ℕ) (d : Data) → length bytes ≤ max_line_bytes → IsUtf8 bytes
    → read bytes ≡ Some d → is_object d ≡ false → object_of bytes ≡ Err NotObject
no_object bytes d h utf8 e is =
    rw (le-leb (length bytes) max_line_bytes h, is_utf8-from_IsUtf8 bytes utf8, e, is) refl

unread : (b : Bool) (bytes : List ℕ) → is_utf8 bytes ≡ b → (IsUtf8 bytes → read bytes ≡ None)
    → cond b (read bytes) None ≡ None
unread true bytes h none = none (IsUtf8-from_is_utf8 bytes h)
unread false bytes h none = refl

-- a text that can't be read is no JSON
pub not_json : (bytes : List ℕ) → length bytes ≤ max_line_bytes → (IsUtf8 bytes → read bytes ≡ None)
    → object_of bytes ≡ Err NotJson
not_json bytes h none =
    rw (le-leb (length bytes) max_line_bytes h, unread (is_utf8 bytes) bytes refl none) refl
