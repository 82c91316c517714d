-- Positions as bytes, in whose order they stand.
use Rattle.std.specs.Prelude.{◌≡◌, ℕ, ℤ, pos, negsuc, ◌+◌, ◌-◌, ◌^◌, ◌==◌, nat_lt, Bool, true, false, List, [], ◌∷◌, ◌++◌, map, length, take, drop, zero, suc, Option, Some, None, if◌then◌else◌}
use Rattle.std.specs.Int.{Width, w8, w16, w32, w64, byte_len, to_be_bytes, from_be_bytes}
use Rattle.std.specs.List.{list_all, AllByRecursion}
use Rattle.std.specs.Str.{is_utf8}
use Rattle.rx_value.specs.declared.value.Value.{Value}
use Rattle.rx_value.specs.declared.value.Value.TheVariants.{Flag, Int, Text}
use Rattle.rx_document.specs.declared.stored.Stored.{Stored}
use Rattle.rx_index.specs.Position.{Position, position_with, key_values, key_of, id_of}

-- a number's kind tells whether it is below 0, and else the fewest bits that hold it
abbrev pub number_kind : ℤ → ℕ
number_kind (negsuc n) = 4
number_kind (pos n) =
    if nat_lt n (2 ^ 8) then 5
    else if nat_lt n (2 ^ 16) then 6
    else if nat_lt n (2 ^ 32) then 7
    else 8

-- the width that a kind tells
abbrev pub width_of : ℕ → Width
width_of kind =
    if kind == 5 then w8
    else if kind == 6 then w16
    else if kind == 7 then w32
    else w64

-- what is written of a number: itself, or where it is below 0 its count from the least of 64 bits
abbrev pub counted : ℤ → ℕ
counted (pos n) = n
counted (negsuc n) = 2 ^ 63 - (n + 1)

-- the bytes behind a number's kind
abbrev pub digits : ℤ → List ℕ
digits z = to_be_bytes (width_of (number_kind z)) (counted z)

-- the bytes of a text, above those that stand for kinds
abbrev pub raised_text : List ℕ → List ℕ
raised_text = map (λ c. c + 11)

-- a value: a byte for its kind, and what it holds
abbrev pub value_bytes : Option Value → List ℕ
value_bytes None = 1 ∷ []
value_bytes (Some (Flag b)) = (if b then 3 else 2) ∷ []
value_bytes (Some (Int z)) = number_kind z ∷ digits z
value_bytes (Some (Text s)) = 9 ∷ (raised_text s ++ 0 ∷ [])

-- the values, and behind them a byte above each kind where the position is after their keys
abbrev pub values_bytes : List (Option Value) → Bool → List ℕ
values_bytes [] after = if after then 10 ∷ [] else []
values_bytes (x ∷ xs) after = value_bytes x ++ values_bytes xs after

-- the bytes of a position
abbrev pub packed : Position → List ℕ
packed p = values_bytes p.values p.after

-- ---- what a value of the program is

-- it has 64 bits
abbrev pub has_64_bits : ℤ → Bool
has_64_bits (pos n) = nat_lt n (2 ^ 63)
has_64_bits (negsuc n) = nat_lt n (2 ^ 63)

-- a number has 64 bits, and a text is one
abbrev pub is_lawful : Option Value → Bool
is_lawful (Some (Int z)) = has_64_bits z
is_lawful (Some (Text s)) = is_utf8 s
is_lawful _ = true

-- each value is such a one
abbrev pub AreLawful : List (Option Value) → Type 0
AreLawful xs = list_all is_lawful xs ≡ true

-- the bytes are those of a document's key
pub record IsKeyOf (fields : List (List ℕ)) (d : Stored) (bs : List ℕ) : Type 0 where
  pub lawful : AreLawful (key_values fields d)
  pub is : bs ≡ packed (key_of fields d)

-- ---- back from bytes

-- the number of that kind, by what was written of it
abbrev pub number_of : ℕ → ℕ → ℤ
number_of kind n = if kind == 4 then negsuc (2 ^ 63 - (n + 1)) else pos n

-- a number of that kind up to its end, and what is behind it
abbrev pub number_first : ℕ → List ℕ → ℤ
number_first kind bs =
    number_of kind (from_be_bytes (width_of kind) (take (byte_len (width_of kind)) bs))

abbrev pub behind_number : ℕ → List ℕ → List ℕ
behind_number kind bs = drop (byte_len (width_of kind)) bs

-- a text up to its end, and what is behind it
abbrev pub text_first : List ℕ → List ℕ
text_first [] = []
text_first (b ∷ bs) = if b == 0 then [] else (b - 11) ∷ text_first bs

abbrev pub behind_text : List ℕ → List ℕ
behind_text [] = []
behind_text (b ∷ bs) = if b == 0 then bs else behind_text bs

-- the values, of which there are at most so many
abbrev pub values_in : ℕ → List ℕ → List (Option Value)
values_in zero bs = []
values_in (suc most) [] = []
values_in (suc most) (b ∷ bs) =
    if b == 1 then None ∷ values_in most bs
    else if b == 2 then Some (Flag false) ∷ values_in most bs
    else if b == 3 then Some (Flag true) ∷ values_in most bs
    else if nat_lt b 9
    then Some (Int (number_first b bs)) ∷ values_in most (behind_number b bs)
    else Some (Text (text_first bs)) ∷ values_in most (behind_text bs)

-- the position before the keys that begin with the values
unfoldable pub unpacked : List ℕ → Position
unpacked bs = position_with (values_in (length bs) bs) false

-- there is a text
abbrev pub is_some_text : Option Value → Bool
is_some_text (Some (Text s)) = true
is_some_text _ = false

-- and it stands at the end
abbrev pub ends_in_text : List (Option Value) → Bool
ends_in_text [] = false
ends_in_text (x ∷ []) = is_some_text x
ends_in_text (x ∷ y ∷ ys) = ends_in_text (y ∷ ys)

-- the bytes are those of a key: of lawful values, the last of which is a text
pub record IsKey (bs : List ℕ) : Type 0 where
  pub lawful : AreLawful (unpacked bs).values
  pub exact : packed (unpacked bs) ≡ bs
  pub ended : ends_in_text (unpacked bs).values ≡ true

-- ---- names with slots

-- each name is a key
abbrev pub AreKeys : List (List ℕ × ℕ) → Type 0
AreKeys es = AllByRecursion (λ e. IsKey e.0) es

-- the keys' positions
abbrev pub positions : List (List ℕ × ℕ) → List Position
positions es = map (λ e. unpacked e.0) es

-- the primary keys in the keys
abbrev pub ids_in : List (List ℕ × ℕ) → List (List ℕ)
ids_in es = map (λ e. id_of (unpacked e.0)) es
