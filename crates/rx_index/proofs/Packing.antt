-- The bytes of positions stand as the positions do, and tell them.
use Rattle.std.proofs.Common.{◌≡◌, ℕ, ℤ, pos, negsuc, ◌^◌, ◌+◌, ◌-◌, ◌<◌, ◌≤◌, ◌==◌, Bool, true, false, ◌&&◌, List, [], ◌∷◌, ◌++◌, zero, suc, map, length, take, get_or, Option, Some, None, Less, Greater, refl, sym, ap, subst, ◌∙◌, arith, append_assoc, append-nil, length-append}
use Rattle.std.proofs.lemmas.Bool.{and_parts, ltb-true}
use Rattle.std.proofs.lemmas.Bool.Decides.{Decides-eqb, nat_tests}
use Rattle.std.proofs.lemmas.List.{map-append, take_more}
use Rattle.std.proofs.lemmas.Nat.{from_be_bytes-to_be_bytes_8}
use Rattle.std.specs.List.{list_all}
use Rattle.std.specs.Cmp.{nat_cmp_is}
use Rattle.std.specs.Ordering.{ordering_then}
use Rattle.rx_value.specs.Order.{text_cmp, order_of}
use Rattle.rx_value.specs.declared.value.Value.{Value}
use Rattle.rx_value.specs.declared.value.Value.TheVariants.{Flag, Int, Text}
use Rattle.rx_index.specs.Packed.{number_kind, digits, has_64_bits, number_first, behind_number, raised_text, value_bytes, values_bytes, packed, is_lawful, AreLawful, text_first, behind_text, values_in, unpacked}
use Rattle.rx_index.specs.Position.{Position, position_with, values_cmp, position_cmp}
use Rattle.rx_index.proofs.Digits.{above_flags, below_texts, numbers_alike, texts_alike}

-- ---- their order

-- a first byte decides
first_byte : (a b : ℕ) (r q : List ℕ) → a < b
    → (text_cmp (a ∷ r) (b ∷ q) ≡ Less) × (text_cmp (b ∷ q) (a ∷ r) ≡ Greater)
first_byte a b r q h = (
  sym (ap (λ o. ordering_then o (text_cmp r q)) (nat_cmp_is a b Less h)),
  sym (ap (λ o. ordering_then o (text_cmp q r)) (nat_cmp_is b a Greater h)),
)

-- so a number stands above lower kinds and below higher ones
above_low : (kind : ℕ) (z : ℤ) (r q : List ℕ) → kind < 4
    → (text_cmp (kind ∷ r) (value_bytes (Some (Int z)) ++ q) ≡ Less)
    × (text_cmp (value_bytes (Some (Int z)) ++ q) (kind ∷ r) ≡ Greater)
above_low kind z r q h =
    first_byte kind (number_kind z) r (digits z ++ q) (omega (arith, above_flags z))

below_high : (kind : ℕ) (z : ℤ) (r q : List ℕ) → 8 < kind
    → (text_cmp (kind ∷ r) (value_bytes (Some (Int z)) ++ q) ≡ Greater)
    × (text_cmp (value_bytes (Some (Int z)) ++ q) (kind ∷ r) ≡ Less)
below_high kind z r q h =
    let first = first_byte (number_kind z) kind (digits z ++ q) r (omega (arith, below_texts z)) in
    (first.1, first.0)

-- a value decides before what follows it
first_value : (x y : Option Value) (r q : List ℕ) → is_lawful x ≡ true → is_lawful y ≡ true
    → text_cmp (value_bytes x ++ r) (value_bytes y ++ q)
    ≡ ordering_then (order_of x y) (text_cmp r q)
first_value None None r q h k = refl
first_value None (Some (Flag true)) r q h k = refl
first_value None (Some (Flag false)) r q h k = refl
first_value None (Some (Int b)) r q h k = (above_low 1 b r q (omega arith)).0
first_value None (Some (Text b)) r q h k = refl
first_value (Some (Flag true)) None r q h k = refl
first_value (Some (Flag false)) None r q h k = refl
first_value (Some (Int a)) None r q h k = (above_low 1 a q r (omega arith)).1
first_value (Some (Text a)) None r q h k = refl
first_value (Some (Flag true)) (Some (Flag true)) r q h k = refl
first_value (Some (Flag true)) (Some (Flag false)) r q h k = refl
first_value (Some (Flag false)) (Some (Flag true)) r q h k = refl
first_value (Some (Flag false)) (Some (Flag false)) r q h k = refl
first_value (Some (Flag true)) (Some (Int b)) r q h k = (above_low 3 b r q (omega arith)).0
first_value (Some (Flag false)) (Some (Int b)) r q h k = (above_low 2 b r q (omega arith)).0
first_value (Some (Flag true)) (Some (Text b)) r q h k = refl
first_value (Some (Flag false)) (Some (Text b)) r q h k = refl
first_value (Some (Int a)) (Some (Flag true)) r q h k = (above_low 3 a q r (omega arith)).1
first_value (Some (Int a)) (Some (Flag false)) r q h k = (above_low 2 a q r (omega arith)).1
first_value (Some (Text a)) (Some (Flag true)) r q h k = refl
first_value (Some (Text a)) (Some (Flag false)) r q h k = refl
first_value (Some (Int a)) (Some (Text b)) r q h k =
    (below_high 9 a (raised_text b ++ 0 ∷ [] ++ q) r (omega arith)).1
first_value (Some (Text a)) (Some (Int b)) r q h k =
    (below_high 9 b (raised_text a ++ 0 ∷ [] ++ r) q (omega arith)).0
first_value (Some (Int a)) (Some (Int b)) r q h k = numbers_alike a b r q h k
first_value (Some (Text a)) (Some (Text b)) r q h k = texts_alike a b r q

-- where one position has no more values
ends : (x : Option Value) (r : List ℕ) → (text_cmp (value_bytes x ++ r) [] ≡ Greater)
    × (text_cmp [] (value_bytes x ++ r) ≡ Less) × (text_cmp (value_bytes x ++ r) (10 ∷ []) ≡ Less)
    × (text_cmp (10 ∷ []) (value_bytes x ++ r) ≡ Greater)
ends None r = (refl, refl, refl, refl)
ends (Some (Flag true)) r = (refl, refl, refl, refl)
ends (Some (Flag false)) r = (refl, refl, refl, refl)
ends (Some (Int z)) r =
    let below = below_high 10 z [] r (omega arith) in
    (refl, refl, below.1, below.0)
ends (Some (Text s)) r = (refl, refl, refl, refl)

values_alike : (xs : List (Option Value)) (a : Bool) (ys : List (Option Value)) (b : Bool)
    → AreLawful xs → AreLawful ys
    → text_cmp (values_bytes xs a) (values_bytes ys b) ≡ values_cmp xs a ys b
values_alike [] true [] true h k = refl
values_alike [] true [] false h k = refl
values_alike [] false [] true h k = refl
values_alike [] false [] false h k = refl
values_alike [] true (y ∷ ys) b h k = (ends y (values_bytes ys b)).3
values_alike [] false (y ∷ ys) b h k = (ends y (values_bytes ys b)).1
values_alike (x ∷ xs) a [] true h k = (ends x (values_bytes xs a)).2
values_alike (x ∷ xs) a [] false h k = (ends x (values_bytes xs a)).0
values_alike (x ∷ xs) a (y ∷ ys) b h k =
    let these = and_parts (is_lawful x) (list_all is_lawful xs) h in
    let those = and_parts (is_lawful y) (list_all is_lawful ys) k in
    first_value x y (values_bytes xs a) (values_bytes ys b) these.0 those.0
    ∙ ap (ordering_then (order_of x y)) (values_alike xs a ys b these.1 those.1)

-- bytes of positions compare as the positions do
pub packed_alike : (p q : Position) → AreLawful p.values → AreLawful q.values
    → text_cmp (packed p) (packed q) ≡ position_cmp p q
packed_alike p q h k = values_alike p.values p.after q.values q.after h k

-- ---- the values back

not_end : (n : ℕ) → (n + 11 == 0) ≡ false
not_end n =
    (elim (n + 11 == 0) as (λ b. (n + 11 == 0) ≡ b → b ≡ false) [
      | true ↦ (λ h. absurd (omega (arith, (Decides-eqb (n + 11) 0).0 h)))
      | false ↦ (λ h. refl)
    ]) refl

text_back : (s r : List ℕ) → (text_first (raised_text s ++ 0 ∷ [] ++ r) ≡ s)
    × (behind_text (raised_text s ++ 0 ∷ [] ++ r) ≡ r)
text_back [] r = (refl, refl)
text_back (x ∷ s) r =
    let rest = text_back s r in
    let byte : x + 11 - 11 ≡ x = omega arith in
    (rw (not_end x) (λ i. byte i ∷ rest.0 i), rw (not_end x) rest.1)

-- its kind tells that a number follows
number_in : (n : ℕ) (z : ℤ) (bs : List ℕ)
    → values_in (suc n) (number_kind z ∷ bs)
    ≡ Some (Int (number_first (number_kind z) bs)) ∷ values_in n (behind_number (number_kind z) bs)
number_in n (negsuc m) bs = refl
number_in n (pos m) bs = grind (arith, nat_tests)

-- and which one
number_back : (z : ℤ) (r : List ℕ) → has_64_bits z ≡ true
    → (number_first (number_kind z) (digits z ++ r) ≡ z)
    × (behind_number (number_kind z) (digits z ++ r) ≡ r)
number_back (pos n) r h = grind (arith, nat_tests, from_be_bytes-to_be_bytes_8 n)
number_back (negsuc n) r h =
    let read = from_be_bytes-to_be_bytes_8 (2 ^ 63 - (n + 1)) (omega arith) in
    let back : 2 ^ 63 - (2 ^ 63 - (n + 1) + 1) ≡ n = omega (arith, ltb-true n (2 ^ 63) h) in
    (ap negsuc (ap (λ (k : ℕ). 2 ^ 63 - (k + 1)) read ∙ back), refl)

values_back : (n : ℕ) (xs : List (Option Value)) → AreLawful xs → length xs ≤ n
    → values_in n (values_bytes xs false) ≡ xs
values_back zero [] h k = refl
values_back (suc n) [] h k = refl
values_back zero (x ∷ xs) h k = absurd (omega arith)
values_back (suc n) (None ∷ xs) h k = ap (λ r. None ∷ r) (values_back n xs h (omega arith))
values_back (suc n) (Some (Flag true) ∷ xs) h k =
    ap (λ r. Some (Flag true) ∷ r) (values_back n xs h (omega arith))
values_back (suc n) (Some (Flag false) ∷ xs) h k =
    ap (λ r. Some (Flag false) ∷ r) (values_back n xs h (omega arith))
values_back (suc n) (Some (Int z) ∷ xs) h k =
    let parts = and_parts (is_lawful (Some (Int z))) (list_all is_lawful xs) h in
    let read = number_back z (values_bytes xs false) parts.0 in
    number_in n z (digits z ++ values_bytes xs false)
    ∙ (λ i. Some (Int (read.0 i)) ∷ values_in n (read.1 i))
    ∙ ap (λ r. Some (Int z) ∷ r) (values_back n xs parts.1 (omega arith))
values_back (suc n) (Some (Text s) ∷ xs) h k =
    let parts = and_parts (is_lawful (Some (Text s))) (list_all is_lawful xs) h in
    let read = text_back s (values_bytes xs false) in
    let rest : values_in n (behind_text (raised_text s ++ 0 ∷ [] ++ values_bytes xs false)) ≡ xs =
    ap (values_in n) read.1 ∙ values_back n xs parts.1 (omega arith) in
    λ i. Some (Text (read.0 i)) ∷ rest i

-- a value has a byte at least
value_long : (x : Option Value) → 1 ≤ length (value_bytes x)
value_long None = omega arith
value_long (Some (Flag b)) = omega arith
value_long (Some (Int z)) = omega arith
value_long (Some (Text s)) = omega arith

values_long : (xs : List (Option Value)) → length xs ≤ length (values_bytes xs false)
values_long [] = omega arith
values_long (x ∷ xs) =
    let rest = values_long xs in
    let first = value_long x in
    omega (arith, length-append (value_bytes x) (values_bytes xs false))

-- the bytes of a position before its keys tell it
pub unpacked-packed : (xs : List (Option Value)) → AreLawful xs
    → unpacked (values_bytes xs false) ≡ position_with xs false
unfolding unpacked
unpacked-packed xs h =
    ap (λ vs. position_with vs false)
    (values_back (length (values_bytes xs false)) xs h (values_long xs))

-- ---- one value more

pub values_bytes-append : (xs ys : List (Option Value)) (a : Bool)
    → values_bytes (xs ++ ys) a ≡ values_bytes xs false ++ values_bytes ys a
values_bytes-append [] ys a = refl
values_bytes-append (x ∷ xs) ys a =
    ap (λ bs. value_bytes x ++ bs) (values_bytes-append xs ys a)
    ∙ sym (append_assoc (value_bytes x) (values_bytes xs false) (values_bytes ys a))

AreLawful-append : (xs ys : List (Option Value)) → AreLawful xs → AreLawful ys
    → AreLawful (xs ++ ys)
AreLawful-append [] ys h k = k
AreLawful-append (x ∷ xs) ys h k =
    let parts = and_parts (is_lawful x) (list_all is_lawful xs) h in
    ap (λ b. b && list_all is_lawful (xs ++ ys)) parts.0 ∙ AreLawful-append xs ys parts.1 k

one_lawful : (x : Option Value) → is_lawful x ≡ true → AreLawful (x ∷ [])
one_lawful x h = ap (λ b. b && true) h

-- ---- a value more

pub more_bytes : (xs : List (Option Value)) (x : Option Value) (so all : List ℕ)
    → so ≡ values_bytes xs false → all ≡ so ++ value_bytes x
    → all ≡ values_bytes (xs ++ x ∷ []) false
more_bytes xs x so all is more =
    more ∙ ap (λ bs. bs ++ value_bytes x) is
    ∙ ap (λ bs. values_bytes xs false ++ bs) (sym (append-nil (value_bytes x)))
    ∙ sym (values_bytes-append xs (x ∷ []) false)

pub more_lawful : (xs : List (Option Value)) (x : Option Value) → AreLawful xs → is_lawful x ≡ true
    → AreLawful (xs ++ x ∷ [])
more_lawful xs x h k = AreLawful-append xs (x ∷ []) h (one_lawful x k)

-- the values so far, and the next one
pub next_bytes : (xs : List (Option Value)) (i : ℕ) (x : Option Value) (so all : List ℕ)
    → i < length xs → x ≡ get_or xs i x → so ≡ values_bytes (take i xs) false
    → all ≡ so ++ value_bytes x → all ≡ values_bytes (take (i + 1) xs) false
next_bytes xs i x so all h at is more =
    more_bytes (take i xs) x so all is more
    ∙ ap (λ ys. values_bytes ys false)
    (ap (λ y. take i xs ++ y ∷ []) at ∙ sym (take_more xs i x h))

pub next_lawful : (xs : List (Option Value)) (i : ℕ) (x : Option Value) → i < length xs
    → x ≡ get_or xs i x → AreLawful (take i xs) → is_lawful x ≡ true → AreLawful (take (i + 1) xs)
next_lawful xs i x h at so now =
    subst AreLawful (ap (λ y. take i xs ++ y ∷ []) at ∙ sym (take_more xs i x h))
    (more_lawful (take i xs) x so now)

-- the same behind another value, of what is made of each
next_made : {X : Type 0} (v : Option Value) (f : X → Option Value) (xs : List X) (i : ℕ) (x : X)
    → i < length xs → x ≡ get_or xs i x
    → (v ∷ map f (take i xs)) ++ f x ∷ [] ≡ v ∷ map f (take (i + 1) xs)
next_made v f xs i x h at =
    ap (λ ys. v ∷ ys)
    (sym (ap (map f) (take_more xs i x h ∙ ap (λ y. take i xs ++ y ∷ []) (sym at))
    ∙ map-append f (take i xs) (x ∷ [])))

pub made_bytes : {X : Type 0} (v : Option Value) (f : X → Option Value) (xs : List X)
    (i : ℕ) (x : X) (so all : List ℕ) → i < length xs → x ≡ get_or xs i x
    → so ≡ values_bytes (v ∷ map f (take i xs)) false → all ≡ so ++ value_bytes (f x)
    → all ≡ values_bytes (v ∷ map f (take (i + 1) xs)) false
made_bytes v f xs i x so all h at is more =
    more_bytes (v ∷ map f (take i xs)) (f x) so all is more
    ∙ ap (λ ys. values_bytes ys false) (next_made v f xs i x h at)

pub made_lawful : {X : Type 0} (v : Option Value) (f : X → Option Value) (xs : List X)
    (i : ℕ) (x : X)
    → i < length xs → x ≡ get_or xs i x → AreLawful (v ∷ map f (take i xs))
    → is_lawful (f x) ≡ true → AreLawful (v ∷ map f (take (i + 1) xs))
made_lawful v f xs i x h at so now =
    subst AreLawful (next_made v f xs i x h at)
    (more_lawful (v ∷ map f (take i xs)) (f x) so now)
