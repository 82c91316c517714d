-- How many keys stand between positions.
use Rattle.std.proofs.Common.{◌≡◌, inl, inr, ℕ, zero, suc, ◌+◌, ◌<◌, ◌≤◌, Bool, true, false, not, cond, ◌&&◌, List, [], ◌∷◌, filter, length, get_or, Less, refl, sym, ap, ◌∙◌, subst, arith}
use Rattle.std.proofs.lemmas.Bool.{false≢true, and_parts, not-true}
use Rattle.std.proofs.lemmas.List.{length-map}
use Rattle.std.specs.List.Sorted.{IsStrictlySortedBy}
use Rattle.rx_query.proofs.Sorting.{In, all_in}
use Rattle.rx_index.specs.Index.{is_between, ids_between}
use Rattle.rx_index.specs.Position.{Position, position_cmp, precedes, id_of}
use Rattle.rx_planner.specs.Way.{part_low, part_high, left_low, left_high}
use Rattle.rx_planner.proofs.Cuts.{le_through, before_le}

-- ---- counting

abbrev one_if : Bool → ℕ
one_if b = cond b 1 0

module _ {X : Type 0} where
  counted : (p : X → Bool) (x : X) (xs : List X)
      → length (filter p (x ∷ xs)) ≡ one_if (p x) + length (filter p xs)
  counted p x xs =
      elim (p x) as (λ b. length (cond b (x ∷ filter p xs) (filter p xs))
      ≡ one_if b + length (filter p xs)) [ true ↦ omega arith | false ↦ omega arith ]

  -- what passes one of two tests
  pub count_parts : (p q r : X → Bool) → ((x : X) → one_if (p x) ≡ one_if (q x) + one_if (r x))
      → (xs : List X) → length (filter p xs) ≡ length (filter q xs) + length (filter r xs)
  count_parts p q r h [] = omega arith
  count_parts p q r h (x ∷ xs) =
      let rest = count_parts p q r h xs in
      let a = counted p x xs in
      let b = counted q x xs in
      let c = counted r x xs in
      let e = h x in omega (arith, rest, a, b, c, e)

  -- a test that lets more through
  pub count_within : (p q : X → Bool) → ((x : X) → p x ≡ true → q x ≡ true) → (xs : List X)
      → length (filter p xs) ≤ length (filter q xs)
  count_within p q h [] = omega arith
  count_within p q h (x ∷ xs) =
      let rest = count_within p q h xs in
      let a = counted p x xs in
      let b = counted q x xs in
      let e : one_if (p x) ≤ one_if (q x) =
      (elim (p x) as (λ c. p x ≡ c → one_if c ≤ one_if (q x)) [
        | true ↦ (λ is. let yes = h x is in
            subst (λ c. 1 ≤ one_if c) (sym yes) (omega arith))
        | false ↦ (λ is. omega arith)
      ]) refl in
      omega (arith, rest, a, b, e)

  pub in_some : (xs : List X) (z : X) → In z xs → 0 < length xs
  in_some [] z i = absurd i
  in_some (x ∷ xs) z i = omega arith

  -- a test that passes no more than one before it
  pub filter_twice : (p q : X → Bool) → ((x : X) → p x ≡ true → q x ≡ true) → (xs : List X)
      → filter p (filter q xs) ≡ filter p xs
  filter_twice p q h [] = refl
  filter_twice p q h (x ∷ xs) =
      (elim (q x) as (λ b. q x ≡ b → filter p (cond b (x ∷ filter q xs) (filter q xs))
      ≡ filter p (x ∷ xs)) [
        | true ↦ (λ _. ap (λ zs. cond (p x) (x ∷ zs) zs) (filter_twice p q h xs))
        | false ↦ (λ out. filter_twice p q h xs
            ∙ sym (ap (λ b. cond b (x ∷ filter p xs) (filter p xs)) (never x out)))
      ]) refl
    where
      never : (x : X) → q x ≡ false → p x ≡ false
      never x out = (elim (p x) as (λ b. p x ≡ b → b ≡ false) [
        | true ↦ (λ is. absurd (false≢true (sym out ∙ h x is)))
        | false ↦ (λ _. refl)
      ]) refl

  none_passes : (p : X → Bool) (xs : List X) → ((x : X) → In x xs → p x ≡ false)
      → length (filter p xs) ≡ 0
  none_passes p [] h = refl
  none_passes p (x ∷ xs) h =
      let rest = none_passes p xs (λ z i. h z (inr i)) in
      counted p x xs ∙ ap (λ b. one_if b + length (filter p xs)) (h x (inl refl))
      ∙ (let e : 0 + length (filter p xs) ≡ 0 = omega (arith, rest) in e)

  in_place : (xs : List X) (k : ℕ) (d : X) → k < length xs → In (get_or xs k d) xs
  in_place [] k d lt = absurd (omega arith)
  in_place (x ∷ xs) zero d lt = inl refl
  in_place (x ∷ xs) (suc k) d lt = inr (in_place xs k d (omega arith))

-- of rising keys no more than stand before one pass what it and those behind it don't, and no more
-- than stand behind it what it and those before it don't
module _ (p : Position → Bool) where
  pub few_first : (ks : List Position) (m : ℕ) (d : Position) → m < length ks
      → IsStrictlySortedBy position_cmp ks → p (get_or ks m d) ≡ false
      → ((k : Position) → position_cmp (get_or ks m d) k ≡ Less → p k ≡ false)
      → length (filter p ks) ≤ m
  unfolding IsStrictlySortedBy
  few_first [] m d lt up here after = absurd (omega arith)
  few_first (x ∷ xs) zero d lt up here after =
      let none =
      none_passes p xs (λ z i. after z (all_in (λ k. position_cmp x k ≡ Less) xs up.0 z i)) in
      let one = counted p x xs ∙ ap (λ b. one_if b + length (filter p xs)) here in
      omega (arith, none, one)
  few_first (x ∷ xs) (suc m) d lt up here after =
      let rest = few_first xs m d (omega arith) up.1 here after in
      let one = counted p x xs in
      let most : one_if (p x) ≤ 1 = elim (p x) as (λ b. one_if b ≤ 1)
      [ true ↦ omega arith | false ↦ omega arith ] in
      omega (arith, rest, one, most)

  pub few_last : (ks : List Position) (m : ℕ) (d : Position) → m < length ks
      → IsStrictlySortedBy position_cmp ks → p (get_or ks m d) ≡ false
      → ((k : Position) → position_cmp k (get_or ks m d) ≡ Less → p k ≡ false)
      → length (filter p ks) + m + 1 ≤ length ks
  unfolding IsStrictlySortedBy
  few_last [] m d lt up here before = absurd (omega arith)
  few_last (x ∷ xs) zero d lt up here before =
      let all = count_all xs in
      let one = counted p x xs ∙ ap (λ b. one_if b + length (filter p xs)) here in
      omega (arith, all, one)
    where
      count_all : (zs : List Position) → length (filter p zs) ≤ length zs
      count_all [] = omega arith
      count_all (z ∷ zs) =
          let rest = count_all zs in
          let one = counted p z zs in
          let most : one_if (p z) ≤ 1 = elim (p z) as (λ b. one_if b ≤ 1)
          [ true ↦ omega arith | false ↦ omega arith ] in
          omega (arith, rest, one, most)
  few_last (x ∷ xs) (suc m) d lt up here before =
      let rest = few_last xs m d (omega arith) up.1 here before in
      let first = before x (all_in (λ k. position_cmp x k ≡ Less) xs up.0 (get_or xs m d)
      (in_place xs m d (omega arith))) in
      let one = counted p x xs ∙ ap (λ b. one_if b + length (filter p xs)) first in
      omega (arith, rest, one)

-- ---- between positions

abbrev pub keys_in : List Position → Position → Position → ℕ
keys_in keys low high = length (ids_between low high keys)

pub keys_are : (keys : List Position) (low high : Position)
    → keys_in keys low high ≡ length (filter (is_between low high) keys)
keys_are keys low high = length-map (filter (is_between low high) keys) id_of

-- what comes next up to a cut, and what is left
pub keys_cut : (keys : List Position) (desc : Bool) (low cut high : Position)
    → precedes low cut ≡ true → precedes cut high ≡ true
    → keys_in keys low high ≡ keys_in keys (part_low desc low cut) (part_high desc high cut)
    + keys_in keys (left_low desc low cut) (left_high desc high cut)
keys_cut keys desc low cut high above below =
    let all = keys_are keys low high in
    let upper = keys_are keys cut high in
    let lower = keys_are keys low cut in
    let parts =
    count_parts (is_between low high) (is_between cut high) (is_between low cut) either keys in
    elim desc as (λ b. keys_in keys low high
    ≡ keys_in keys (part_low b low cut) (part_high b high cut)
    + keys_in keys (left_low b low cut) (left_high b high cut)) [
      | true ↦ omega (arith, all, upper, lower, parts)
      | false ↦ omega (arith, all, upper, lower, parts)
    ]
  where
    either : (k : Position)
        → one_if (is_between low high k)
        ≡ one_if (is_between cut high k) + one_if (is_between low cut k)
    either k =
        (elim (precedes cut k) as (λ b. precedes cut k ≡ b
        → one_if (precedes low k && not (precedes high k))
        ≡ one_if (b && not (precedes high k)) + one_if (precedes low k && not b)) [
          | true ↦ (λ at.
              let up = le_through low cut k above at in
              (elim (precedes high k) as (λ c. one_if (precedes low k && not c)
              ≡ one_if (not c) + one_if (precedes low k && false)) [
                | true ↦ (elim (precedes low k) as (λ c. one_if (c && false)
                    ≡ 0 + one_if (c && false)) [ true ↦ omega arith | false ↦ omega arith ])
                | false ↦ subst (λ c. one_if (c && true) ≡ 1 + one_if (c && false)) (sym up)
                    (omega arith)
              ]))
          | false ↦ (λ before.
              let far = before_le cut high k below before in
              subst (λ c. one_if (precedes low k && not c) ≡ 0 + one_if (precedes low k && true))
              (sym far)
              (elim (precedes low k) as (λ c. one_if (c && true) ≡ 0 + one_if (c && true))
              [ true ↦ omega arith | false ↦ omega arith ]))
        ]) refl

-- a cut that comes first leaves more
pub fewer_part : (keys : List Position) (low high far near : Position) → precedes far near ≡ true
    → (keys_in keys near high ≤ keys_in keys far high)
    × (keys_in keys low far ≤ keys_in keys low near)
fewer_part keys low high far near le =
    let a = keys_are keys near high in
    let b = keys_are keys far high in
    let c = keys_are keys low far in
    let d = keys_are keys low near in
    let up = count_within (is_between near high) (is_between far high)
    (λ k h. let parts = and_parts (precedes near k) (not (precedes high k)) h in
    ap (λ e. e && not (precedes high k)) (le_through far near k le parts.0) ∙ parts.1) keys in
    let down = count_within (is_between low far) (is_between low near)
    (λ k h. let parts = and_parts (precedes low k) (not (precedes far k)) h in
    ap (λ e. e && not (precedes near k)) parts.0
    ∙ ap not (before_le far near k le (not-true (precedes far k) parts.1))) keys in
    (omega (arith, a, b, up), omega (arith, c, d, down))
