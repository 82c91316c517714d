-- The compact text of JSON is one line.
use Rattle.std.proofs.Common.{◌≡◌, ℕ, zero, suc, ◌+◌, ◌<◌, ◌≤◌, ◌/◌, ◌%◌, ◌==◌, nat_lt, pos, negsuc, Bool, true, false, cond, not, ◌&&◌, List, [], ◌∷◌, ◌++◌, decimal, refl, ap, ◌∙◌, arith, inl, inr, ◌⊎◌}
use Rattle.std.proofs.lemmas.Bool.{ne_eqb, and_parts, cases_lt, cases_eq}
use Rattle.std.proofs.lemmas.List.Folds.{list_all-append}
use Rattle.std.specs.Fmt.{digits, digits_onto, digit_glyph}
use Rattle.json.proofs.Printed.Strings.{escape_byte_plain}
use Rattle.json.specs.Print.{escape_byte, escape, quoted}
use Rattle.serde_json.specs.Data.{Num, unsigned, negative, float, Data, null, boolean, number, string, array, object, Items, no_items, item, Members, no_members, member}
use Rattle.serde_json.specs.Written.{number_text, compact_text, items_text, members_text, comma_if}
use Rattle.rx_wire.specs.OneLine.{is_in_line, is_one_line}

-- two texts of one line
joined : (xs ys : List ℕ) → is_one_line xs ≡ true → is_one_line ys ≡ true
    → is_one_line (xs ++ ys) ≡ true
joined xs ys h g = list_all-append is_in_line xs ys ∙ rw (h, g) refl

-- a byte that is no line feed
in_line : (b : ℕ) → (b ≡ 10 → ⊥) → is_in_line b ≡ true
in_line b other = ap not (ne_eqb b 10 other)

-- ---- numbers

glyph_in_line : (m : ℕ) → is_in_line (digit_glyph false m) ≡ true
glyph_in_line m = either (nat_lt m 10)
  where
    either : (b : Bool) → is_in_line (cond b (48 + m) (87 + m)) ≡ true
    either true = in_line (48 + m) (λ e. omega (arith, e))
    either false = in_line (87 + m) (λ e. omega (arith, e))

digits_in_line : (k n : ℕ) (acc : List ℕ) → is_one_line acc ≡ true
    → is_one_line (digits_onto k 10 false n acc) ≡ true
digits_in_line zero n acc h = h
digits_in_line (suc k) n acc h =
    let d = digit_glyph false (n % 10) in
    let more : is_one_line (d ∷ acc) ≡ true = rw (glyph_in_line (n % 10), h) refl in
    either (n / 10 == 0) d acc more (digits_in_line k (n / 10) (d ∷ acc) more)
  where
    either : (b : Bool) (d : ℕ) (acc : List ℕ) → is_one_line (d ∷ acc) ≡ true
        → is_one_line (digits_onto k 10 false (n / 10) (d ∷ acc)) ≡ true
        → is_one_line (cond b (d ∷ acc) (digits_onto k 10 false (n / 10) (d ∷ acc))) ≡ true
    either true d acc here rest = here
    either false d acc here rest = rest

decimal_in_line : (n : ℕ) → is_one_line (decimal n) ≡ true
unfolding digits
decimal_in_line n = digits_in_line 64 n [] refl

number_in_line : (n : Num) → is_one_line (number_text n) ≡ true
number_in_line (unsigned n) = decimal_in_line n
number_in_line (negative (pos n)) = decimal_in_line n
number_in_line (negative (negsuc n)) = decimal_in_line (suc n)
number_in_line (float x) = refl

-- ---- texts

-- a test of each number below another
abbrev all_below : (ℕ → Bool) → ℕ → Bool
all_below test zero = true
all_below test (suc n) = test n && all_below test n

-- what passes here and below
pick : (test : ℕ → Bool) (n x : ℕ) → (x ≡ n) ⊎ (x ≡ n → ⊥) → test n ≡ true
    → (x < n → test x ≡ true) → x < suc n → test x ≡ true
pick test n x (inl same) here rest lt = ap test same ∙ here
pick test n x (inr other) here rest lt = rest (omega (arith, other, lt))

below_all : (test : ℕ → Bool) (n x : ℕ) → all_below test n ≡ true → x < n → test x ≡ true
below_all test zero x h lt = absurd (omega arith)
below_all test (suc n) x h lt =
    let both = and_parts (test n) (all_below test n) h in
    pick test n x (cases_eq x n) both.0 (below_all test n x both.1) lt

-- control bytes are escaped, and so are quotes and backslashes
controls_in_line : all_below (λ x. is_one_line (escape_byte x)) 32 ≡ true
unfolding escape_byte
controls_in_line = refl

quote_in_line : is_one_line (escape_byte 34) ≡ true
unfolding escape_byte
quote_in_line = refl

backslash_in_line : is_one_line (escape_byte 92) ≡ true
unfolding escape_byte
backslash_in_line = refl

byte_in_line : (x : ℕ) → is_one_line (escape_byte x) ≡ true
byte_in_line x = by_kind (cases_lt x 32) (cases_eq x 34) (cases_eq x 92)
  where
    by_kind : (x < 32) ⊎ (32 ≤ x) → (x ≡ 34) ⊎ (x ≡ 34 → ⊥) → (x ≡ 92) ⊎ (x ≡ 92 → ⊥)
        → is_one_line (escape_byte x) ≡ true
    by_kind (inl low) q b = below_all (λ y. is_one_line (escape_byte y)) 32 x controls_in_line low
    by_kind (inr high) (inl q) b = ap (λ y. is_one_line (escape_byte y)) q ∙ quote_in_line
    by_kind (inr high) (inr q) (inl b) = ap (λ y. is_one_line (escape_byte y)) b ∙ backslash_in_line
    by_kind (inr high) (inr q) (inr b) =
        ap is_one_line (escape_byte_plain x q b high)
        ∙ rw (in_line x (λ e. omega (arith, high, e))) refl

escape_in_line : (s : List ℕ) → is_one_line (escape s) ≡ true
escape_in_line [] = refl
escape_in_line (x ∷ s) = joined (escape_byte x) (escape s) (byte_in_line x) (escape_in_line s)

quoted_in_line : (s : List ℕ) → is_one_line (quoted s) ≡ true
quoted_in_line s = joined (escape s) (34 ∷ []) (escape_in_line s) refl

-- ---- JSON

comma_in_line : (later : Bool) (ys : List ℕ) → is_one_line ys ≡ true
    → is_one_line (comma_if later ++ ys) ≡ true
comma_in_line true ys h = h
comma_in_line false ys h = h

mutual
  -- the text of JSON
  pub one_line : (d : Data) → is_one_line (compact_text d) ≡ true
  one_line null = refl
  one_line (boolean true) = refl
  one_line (boolean false) = refl
  one_line (number n) = number_in_line n
  one_line (string s) = quoted_in_line s
  one_line (array ds) = items_in_line false ds
  one_line (object ms) = members_in_line false ms

  items_in_line : (later : Bool) (ds : Items) → is_one_line (items_text later ds) ≡ true
  items_in_line later no_items = refl
  items_in_line later (item d ds) =
      comma_in_line later (compact_text d ++ items_text true ds)
      (joined (compact_text d) (items_text true ds) (one_line d) (items_in_line true ds))

  members_in_line : (later : Bool) (ms : Members) → is_one_line (members_text later ms) ≡ true
  members_in_line later no_members = refl
  members_in_line later (member k d ms) =
      comma_in_line later (quoted k ++ 58 ∷ (compact_text d ++ members_text true ms))
      (joined (quoted k) (58 ∷ (compact_text d ++ members_text true ms)) (quoted_in_line k)
      (joined (compact_text d) (members_text true ms) (one_line d) (members_in_line true ms)))
