-- How many bytes a text takes, and its spelling in JSON, by its bytes and by its code points.
use Rattle.std.proofs.Common.{◌≡◌, ℕ, suc, ◌+◌, ◌*◌, ◌/◌, ◌%◌, ◌<◌, ◌≤◌, Bool, true, false, cond, nat_lt, List, [], ◌∷◌, ◌++◌, length, get_or, IsUtf8, chars, encode_utf8, encode_utf8_all, inl, inr, refl, sym, ap, ap₂, ◌∙◌, arith, append-nil, length-append}
use Rattle.std.specs.Char.{digit_char, len_utf8}
use Rattle.std.proofs.lemmas.Bool.{cases_lt}
use Rattle.std.proofs.lemmas.Grind.{flat_map-append}
use Rattle.std.proofs.lemmas.Str.{chars-encodes, encode_ascii, inside_one, length-encode}
use Rattle.json.specs.Print.{escape_byte, escape_letter, escape, quoted}
use Rattle.json.proofs.Printed.Strings.{escape_byte_plain}

-- ---- by bytes

-- what stands for a byte
byte_short : (x : ℕ) → length (escape_byte x) ≤ 6
unfolding escape_byte
byte_short x = either (nat_lt 0 (escape_letter x)) (nat_lt x 32)
  where
    either : (a b : Bool)
        → length (cond a (92 ∷ escape_letter x ∷ [])
        (cond b (92 ∷ 117 ∷ 48 ∷ 48 ∷ digit_char (x / 16) ∷ digit_char (x % 16) ∷ []) (x ∷ []))) ≤ 6
    either true b = omega arith
    either false true = omega arith
    either false false = omega arith

-- what stands for bytes
pub escape_short : (s : List ℕ) → length (escape s) ≤ 6 * length s
escape_short [] = omega arith
escape_short (x ∷ s) =
    omega (arith, length-append (escape_byte x) (escape s), byte_short x, escape_short s)

-- and between quotes
pub quoted_short : (s : List ℕ) → length (quoted s) ≤ 6 * length s + 2
quoted_short s = omega (arith, length-append (escape s) (34 ∷ []), escape_short s)

-- which is no shorter than they are
byte_least : (x : ℕ) → 1 ≤ length (escape_byte x)
unfolding escape_byte
byte_least x = either (nat_lt 0 (escape_letter x)) (nat_lt x 32)
  where
    either : (a b : Bool)
        → 1 ≤ length (cond a (92 ∷ escape_letter x ∷ [])
        (cond b (92 ∷ 117 ∷ 48 ∷ 48 ∷ digit_char (x / 16) ∷ digit_char (x % 16) ∷ []) (x ∷ [])))
    either true b = omega arith
    either false true = omega arith
    either false false = omega arith

escape_least : (s : List ℕ) → length s ≤ length (escape s)
escape_least [] = omega arith
escape_least (x ∷ s) =
    omega (arith, length-append (escape_byte x) (escape s), byte_least x, escape_least s)

pub quoted_least : (s : List ℕ) → length s + 2 ≤ length (quoted s)
quoted_least s = omega (arith, length-append (escape s) (34 ∷ []), escape_least s)

-- ---- by code points

four_bytes : (c : ℕ) → len_utf8 c ≤ 4
four_bytes c = grind arith

-- bytes that aren't ASCII stand for themselves
high_itself : (xs : List ℕ) → ((k : ℕ) → k < length xs → 128 ≤ get_or xs k 0) → escape xs ≡ xs
high_itself [] h = refl
high_itself (x ∷ xs) h =
    let high : 128 ≤ x = h 0 (omega arith) in
    ap₂ (λ (a b : List ℕ). a ++ b)
    (escape_byte_plain x (λ e. omega arith) (λ e. omega arith) (omega arith))
    (high_itself xs (λ k below. h (suc k) (omega arith)))

-- what stands for a code point
char_short : (c : ℕ) → length (escape (encode_utf8 c)) ≤ 6
char_short c = elim (cases_lt c 128) [
  | inl small ↦
      rw (encode_ascii c small)
      (omega (arith, byte_short c, length-append (escape_byte c) []))
  | inr big ↦
      let high : (k : ℕ) → k < length (encode_utf8 c) → 128 ≤ get_or (encode_utf8 c) k 0 =
      λ k below. elim (cases_lt (get_or (encode_utf8 c) k 0) 128) [
        | inl low ↦ absurd (omega (
          arith,
          inside_one c [] (encode_utf8 c) k (sym (append-nil (encode_utf8 c))) below low,
        ))
        | inr h ↦ h
      ] in
      omega (arith, ap length (high_itself (encode_utf8 c) high), length-encode c, four_bytes c)
]

chars_short : (cs : List ℕ) → length (escape (encode_utf8_all cs)) ≤ 6 * length cs
chars_short [] = omega arith
chars_short (c ∷ cs) =
    omega (
      arith,
      ap length (flat_map-append escape_byte (encode_utf8 c) (encode_utf8_all cs)),
      length-append (escape (encode_utf8 c)) (escape (encode_utf8_all cs)),
      char_short c,
      chars_short cs,
    )

chars_bytes : (cs : List ℕ) → length (encode_utf8_all cs) ≤ 4 * length cs
chars_bytes [] = omega arith
chars_bytes (c ∷ cs) =
    omega (
      arith,
      length-append (encode_utf8 c) (encode_utf8_all cs),
      length-encode c,
      four_bytes c,
      chars_bytes cs,
    )

-- a text between quotes
pub text_short : (s : List ℕ) → IsUtf8 s → length (quoted s) ≤ 6 * length (chars s) + 2
text_short s u =
    omega (
      arith,
      length-append (escape s) (34 ∷ []),
      ap (λ t. length (escape t)) u.1.1,
      chars_short u.0,
      ap length (sym (chars-encodes u.0 u.1.0) ∙ ap chars u.1.1),
    )

-- the bytes of a text
pub bytes_short : (s : List ℕ) → IsUtf8 s → length s ≤ 4 * length (chars s)
bytes_short s u =
    omega (
      arith,
      ap length u.1.1,
      chars_bytes u.0,
      ap length (sym (chars-encodes u.0 u.1.0) ∙ ap chars u.1.1),
    )
