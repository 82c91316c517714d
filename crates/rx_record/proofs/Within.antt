-- A fault stands within the bytes, and so does what is behind a part.
use Rattle.std.proofs.Common.{ℕ, zero, suc, ◌≤◌, List, [], ◌∷◌, length, take, drop, Bool, true, false, if◌then◌else◌, ◌&&◌, ◌==◌, Option, Some, None, Ok, Err, arith, leb, inl, inr, length-drop, w32, w64}
use Rattle.std.proofs.lemmas.Bool.Decides.{leb_tells}
use Rattle.std.specs.Int.{Width, byte_len, cast_signed}
use Rattle.std.specs.Str.{is_utf8}
use Rattle.rx_value.specs.Value.{is_number}
use Rattle.rx_value.specs.declared.value.Value.TheVariants.{Flag, Int, Text}
use Rattle.rx_record.specs.Reading.{Reading, ◌▸◌}
use Rattle.rx_record.specs.Parts.{byte_of, flag_of, number_of, text_of, is_above, text_above}
use Rattle.rx_record.specs.Fields.{integer_of, value_of, pair_of, rising_of, list_of}
use Rattle.rx_record.specs.Rows.{state_of, states_of, state_key, key_of, row_of, rows_of}
use Rattle.rx_record.proofs.Numbers.{number_read, number_short}

-- no more than so many bytes are left
abbrev pub IsWithin : {A : Type 0} → Reading A → ℕ → Type 0
IsWithin (Ok p) n = length p.1 ≤ n
IsWithin (Err left) n = left ≤ n

-- so it is of each reading of these bytes
abbrev pub Bounded : {A : Type 0} → (List ℕ → Reading A) → Type 0
Bounded of = (bs : List ℕ) → IsWithin (of bs) (length bs)

pub grows : {A : Type 0} (m : Reading A) (k n : ℕ) → k ≤ n → IsWithin m k → IsWithin m n
grows (Ok p) k n less h = omega arith
grows (Err left) k n less h = omega arith

-- one part after another
pub onward : {A B : Type 0} (m : Reading A) (f : A → List ℕ → Reading B) (n : ℕ) → IsWithin m n
    → ((x : A) (more : List ℕ) → length more ≤ n → IsWithin (f x more) n) → IsWithin (m ▸ f) n
onward (Ok p) f n h g = g p.0 p.1 h
onward (Err left) f n h g = h

-- a part of the bytes behind
pub behind : {A : Type 0} (of : List ℕ → Reading A) → Bounded of
    → (more : List ℕ) (n : ℕ) → length more ≤ n
    → IsWithin (of more) n
behind of b more n less = grows (of more) (length more) n less (b more)

pub either : {A : Type 0} (b : Bool) (m o : Reading A) (n : ℕ) → IsWithin m n → IsWithin o n
    → IsWithin (if b then m else o) n
either true m o n h g = h
either false m o n h g = g

byte_within : Bounded byte_of
byte_within [] = omega arith
byte_within (b ∷ bs) = omega arith

pub flag_within : Bounded flag_of
flag_within bs = onward (byte_of bs) (λ b more.
    if b == 0 then Ok (false, more) else if b == 1 then Ok (true, more) else Err (length bs))
    (length bs) (byte_within bs)
    (λ b more less. either (b == 0) (Ok (false, more))
    (if b == 1 then Ok (true, more) else Err (length bs)) (length bs)
    less (either (b == 1) (Ok (true, more)) (Err (length bs)) (length bs) less (omega arith)))

pub number_within : (w : Width) → Bounded (number_of w)
number_within w bs =
    elim (leb_tells (byte_len w) (length bs)) as (λ _. IsWithin (number_of w bs) (length bs)) [
      | inl t ↦ rw (number_read w bs t.1) (omega (arith, length-drop (byte_len w) bs))
      | inr t ↦ rw (number_short w bs t.1) (omega arith)
    ]

pub text_within : Bounded text_of
text_within bs = onward (number_of w32 bs) (λ n more.
    if leb n (length more)
    && is_utf8 (take n more) then Ok (take n more, drop n more) else Err (length bs)) (length bs)
    (number_within w32 bs)
    (λ n more less. either (leb n (length more) && is_utf8 (take n more))
    (Ok (take n more, drop n more)) (Err (length bs)) (length bs)
    (omega (arith, length-drop n more)) (omega arith))

above_within : (last : Option (List ℕ)) → Bounded (text_above last)
above_within last bs = onward (text_of bs)
    (λ t more. if is_above last t then Ok (t, more) else Err (length bs)) (length bs)
    (text_within bs)
    (λ t more less.
    either (is_above last t) (Ok (t, more)) (Err (length bs)) (length bs) less (omega arith))

integer_within : Bounded integer_of
integer_within bs = onward (number_of w64 bs) (λ n more.
    if is_number (cast_signed w64 n) then Ok (Int (cast_signed w64 n), more) else Err (length bs))
    (length bs) (number_within w64 bs)
    (λ n more less. either (is_number (cast_signed w64 n)) (Ok (Int (cast_signed w64 n), more))
    (Err (length bs)) (length bs) less (omega arith))

pub value_within : Bounded value_of
value_within bs = onward (byte_of bs) (λ kind more.
    if kind == 0 then (flag_of more ▸ λ b rest. Ok (Flag b, rest))
    else if kind == 1 then integer_of more
    else if kind == 2 then (text_of more ▸ λ t rest. Ok (Text t, rest))
    else Err (length bs)) (length bs)
    (byte_within bs)
    (λ kind more less.
    either (kind == 0) (flag_of more ▸ λ b rest. Ok (Flag b, rest))
    (if kind == 1 then integer_of more
    else if kind == 2 then (text_of more ▸ λ t rest. Ok (Text t, rest)) else Err (length bs))
    (length bs)
    (onward (flag_of more) (λ b rest. Ok (Flag b, rest)) (length bs)
    (behind flag_of flag_within more (length bs) less) (λ b rest fewer. fewer))
    (either (kind == 1) (integer_of more)
    (if kind == 2 then (text_of more ▸ λ t rest. Ok (Text t, rest)) else Err (length bs))
    (length bs) (behind integer_of integer_within more (length bs) less)
    (either (kind == 2) (text_of more ▸ λ t rest. Ok (Text t, rest)) (Err (length bs)) (length bs)
    (onward (text_of more) (λ t rest. Ok (Text t, rest)) (length bs)
    (behind text_of text_within more (length bs) less) (λ t rest fewer. fewer))
    (omega arith))))

pair_within : (last : Option (List ℕ)) → Bounded (pair_of last)
pair_within last bs = onward (text_above last bs)
    (λ name more. value_of more ▸ λ v rest. Ok ((name, v), rest)) (length bs)
    (above_within last bs)
    (λ name more less. onward (value_of more) (λ v rest. Ok ((name, v), rest)) (length bs)
    (behind value_of value_within more (length bs) less) (λ v rest fewer. fewer))

module _ {A L : Type 0} (name : A → L) (part : Option L → List ℕ → Reading A)
    (part_within : (last : Option L) → Bounded (part last)) where
  pub rising_within : (n : ℕ) (last : Option L) → Bounded (rising_of name part n last)
  rising_within zero last bs = omega arith
  rising_within (suc n) last bs =
      onward (part last bs)
      (λ x more. rising_of name part n (Some (name x)) more ▸ λ xs rest. Ok (x ∷ xs, rest))
      (length bs) (part_within last bs)
      (λ x more less.
      onward (rising_of name part n (Some (name x)) more) (λ xs rest. Ok (x ∷ xs, rest)) (length bs)
      (behind (rising_of name part n (Some (name x))) (rising_within n (Some (name x))) more
      (length bs) less)
      (λ xs rest fewer. fewer))

  pub list_within : Bounded (list_of name part)
  list_within bs = onward (number_of w32 bs) (λ n more. rising_of name part n None more) (length bs)
      (number_within w32 bs)
      (λ n more less.
      behind (rising_of name part n None) (rising_within n None) more (length bs) less)

pub state_within : (last : Option (List ℕ)) → Bounded (state_of last)
state_within last bs = onward (text_above last bs) _ (length bs)
    (above_within last bs)
    (λ key more less.
    onward (flag_of more) _ (length bs) (behind flag_of flag_within more (length bs) less)
    (λ deleted more fewer. onward (list_of (λ p. p.0) pair_of more) _ (length bs)
    (behind (list_of (λ p. p.0) pair_of) (list_within (λ p. p.0) pair_of pair_within) more
    (length bs) fewer)
    (λ fields rest left. left)))

row_within : (last : Option (List ℕ)) → Bounded (row_of last)
row_within last bs = onward (number_of w64 bs) _ (length bs)
    (number_within w64 bs)
    (λ height more less. onward (state_of last more) _ (length bs)
    (behind (state_of last) (state_within last) more (length bs) less) (λ state rest left. left))

pub states_within : Bounded states_of
states_within = list_within state_key state_of state_within

pub rows_within : Bounded rows_of
rows_within = list_within key_of row_of row_within
