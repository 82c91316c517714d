-- Bytes, flags, options, numbers and texts.
use Rattle.std.specs.Prelude.{ℕ, List, [], ◌∷◌, ◌++◌, length, take, drop, Bool, true, false, ◌&&◌, ◌==◌, nat_le, if◌then◌else◌, Option, Some, None, Ok, Err}
use Rattle.std.specs.Int.{Width, w32, byte_len, to_be_bytes, from_be_bytes}
use Rattle.std.specs.Ordering.{is_lt}
use Rattle.std.specs.declared.cmp.Ordering.{Ordering}
use Rattle.std.specs.Str.{is_utf8}
use Rattle.rx_value.specs.Order.{text_cmp}
use Rattle.rx_record.specs.Reading.{Reading, ◌▸◌}

-- any byte
abbrev pub byte_of : List ℕ → Reading ℕ
byte_of [] = Err 0
byte_of (b ∷ bs) = Ok (b, bs)

-- a byte 0 or 1
abbrev pub flag_bytes : Bool → List ℕ
flag_bytes b = (if b then 1 else 0) ∷ []

abbrev pub flag_of : List ℕ → Reading Bool
flag_of bs = byte_of bs ▸ λ b more.
    if b == 0 then Ok (false, more) else if b == 1 then Ok (true, more) else Err (length bs)

-- none, or one: a flag, and the thing where there is one
abbrev pub option_bytes : {A : Type 0} → (A → List ℕ) → Option A → List ℕ
option_bytes bytes None = flag_bytes false
option_bytes bytes (Some x) = flag_bytes true ++ bytes x

abbrev pub option_of : {A : Type 0} → (List ℕ → Reading A) → List ℕ → Reading (Option A)
option_of part bs = flag_of bs ▸ λ there more.
    if there then (part more ▸ λ x rest. Ok (Some x, rest)) else Ok (None, more)

-- a number in so many bytes, the high one first
unfoldable pub number_bytes : Width → ℕ → List ℕ
number_bytes w n = to_be_bytes w n

unfoldable pub number_of : Width → List ℕ → Reading ℕ
number_of w bs =
    if nat_le (byte_len w) (length bs)
    then Ok (from_be_bytes w (take (byte_len w) bs), drop (byte_len w) bs)
    else Err (length bs)

-- a text: its length in four bytes, and that many bytes of UTF-8
abbrev pub text_bytes : List ℕ → List ℕ
text_bytes t = number_bytes w32 (length t) ++ t

abbrev pub text_of : List ℕ → Reading (List ℕ)
text_of bs = number_of w32 bs ▸ λ n more.
    if nat_le n (length more) && is_utf8 (take n more) then Ok (take n more, drop n more)
    else Err (length bs)

-- it stands above the one before it in an order, if there is one
abbrev pub is_above_by : {L : Type 0} → (L → L → Ordering) → Option L → L → Bool
is_above_by cmp None x = true
is_above_by cmp (Some last) x = is_lt (cmp last x)

-- the text stands above the one before it, if there is one
abbrev pub is_above : Option (List ℕ) → List ℕ → Bool
is_above = is_above_by text_cmp

-- a text above the one before it
abbrev pub text_above : Option (List ℕ) → List ℕ → Reading (List ℕ)
text_above last bs = text_of bs ▸ λ t more.
    if is_above last t then Ok (t, more) else Err (length bs)
