-- Strictly sorted lists: one list at most has given members, and a sort of distinct ones gives it.
use Rattle.std.proofs.Common.{◌≡◌, ℕ, zero, suc, ◌+◌, ◌<◌, ◌⊎◌, inl, inr, Bool, true, false, cond, List, [], ◌∷◌, length, get_or, Ordering, Less, Equal, Greater, refl, sym, ap, ◌∙◌, subst, arith}
use Rattle.std.proofs.lemmas.Bool.{false≢true}
use Rattle.std.proofs.lemmas.List.Sorted.{Contains-permutation, IsPermutation-refl, IsPermutation-sym, IsPermutation-cons, IsPermutation-trans, IsPermutation-middle}
use Rattle.std.proofs.lemmas.Map.Keys.{sorted_from_all_adjacent, apart_from_distinct, IsDistinct-IsPermutation, sorted_head, sorted_tail}
use Rattle.std.specs.Cmp.{IsTotalOrder}
use Rattle.std.specs.List.{AllByRecursion, Contains, IsDistinct}
use Rattle.std.specs.List.Sorted.{IsStrictlySortedBy, IsSortedBy, IsPermutation}
use Rattle.std.specs.Ordering.{is_lt, is_eq, eq_by_cmp, ordering_reverse}
use Rattle.rx_value.proofs.Orderings.{rises}
use Rattle.rx_query.specs.Lists.{insert_in_order, sorted}

-- ---- members

-- one of the list
abbrev pub In : {X : Type 0} → X → List X → Type 0
In z [] = ⊥
In z (x ∷ xs) = (z ≡ x) ⊎ In z xs

-- what holds of all holds of one
pub all_in : {X : Type 0} (P : X → Type 0) (xs : List X) → AllByRecursion P xs → (z : X)
    → In z xs → P z
all_in P [] h z i = absurd i
all_in P (x ∷ xs) h z (inl e) = subst P (sym e) h.0
all_in P (x ∷ xs) h z (inr i) = all_in P xs h.1 z i

-- at its place
in_from_place : {X : Type 0} (xs : List X) (k : ℕ) (z : X) → k < length xs → get_or xs k z ≡ z
    → In z xs
in_from_place [] k z h e = absurd (omega arith)
in_from_place (x ∷ xs) zero z h e = inl (sym e)
in_from_place (x ∷ xs) (suc k) z h e = inr (in_from_place xs k z (omega arith) e)

-- and the place
place_of : {X : Type 0} (xs : List X) (z : X) → In z xs → Contains xs z
place_of [] z i = absurd i
place_of (x ∷ xs) z (inl e) = (0, omega arith, sym e)
place_of (x ∷ xs) z (inr i) = let p = place_of xs z i in (suc p.0, omega (arith, p.1), p.2)

-- another order has the same members
pub in-permutation : {X : Type 0} (xs ys : List X) (z : X) → IsPermutation xs ys → In z xs → In z ys
in-permutation xs ys z p i =
    let there = Contains-permutation xs ys z p (place_of xs z i) in
    in_from_place ys there.0 z there.1 there.2

-- ---- insertion

-- one more
placed-permutes : {X : Type 0} (before : X → X → Bool) (x : X) (xs : List X)
    → IsPermutation (x ∷ xs) (insert_in_order before x xs)
placed-permutes before x [] = IsPermutation-refl (x ∷ [])
placed-permutes before x (y ∷ ys) =
    elim (before x y) as (λ b. IsPermutation (x ∷ y ∷ ys)
    (cond b (x ∷ y ∷ ys) (y ∷ insert_in_order before x ys))) [
      | true ↦ IsPermutation-refl (x ∷ y ∷ ys)
      | false ↦ IsPermutation-trans (x ∷ y ∷ ys) (y ∷ x ∷ ys) (y ∷ insert_in_order before x ys)
          (IsPermutation-middle (x ∷ []) y ys)
          (IsPermutation-cons y (x ∷ ys) (insert_in_order before x ys)
          (placed-permutes before x ys))
    ]

-- each stays, once
pub sorted-permutes : {X : Type 0} (before : X → X → Bool) (xs : List X)
    → IsPermutation xs (sorted before xs)
sorted-permutes before [] = IsPermutation-refl []
sorted-permutes before (x ∷ xs) =
    IsPermutation-trans (x ∷ xs) (x ∷ sorted before xs)
    (insert_in_order before x (sorted before xs))
    (IsPermutation-cons x xs (sorted before xs) (sorted-permutes before xs))
    (placed-permutes before x (sorted before xs))

module _ {X : Type 0} (cmp : X → X → Ordering) (o : IsTotalOrder cmp) where
  abbrev before : X → X → Bool
  before x y = is_lt (cmp x y)

  -- nothing precedes itself
  itself : (x : X) → cmp x x ≡ Less → ⊥
  itself x h =
      let back : cmp x x ≡ Greater = o.antisymm x x ∙ ap ordering_reverse h in
      let bad : Less ≡ Greater = cc in cc

  -- ---- strictly sorted lists with the same members are one

  -- members of one tail are those of the other
  tail_in : (x : X) (xs ys : List X) → AllByRecursion (λ z. cmp x z ≡ Less) xs
      → ((z : X) → In z (x ∷ xs) → In z (x ∷ ys)) → (z : X) → In z xs → In z ys
  tail_in x xs ys h sub z i =
      elim (sub z (inr i)) [
        | inl e ↦ absurd (itself x (subst (λ w. cmp x w ≡ Less) e
            (all_in (λ w. cmp x w ≡ Less) xs h z i)))
        | inr k ↦ k
      ]

  -- of the same members
  pub same_members : (xs ys : List X) → IsStrictlySortedBy cmp xs → IsStrictlySortedBy cmp ys
      → ((z : X) → In z xs → In z ys) → ((z : X) → In z ys → In z xs) → xs ≡ ys
  same_members [] [] up up' to from = refl
  same_members [] (y ∷ ys) up up' to from = absurd (from y (inl refl))
  same_members (x ∷ xs) [] up up' to from = absurd (to x (inl refl))
  same_members (x ∷ xs) (y ∷ ys) up up' to from =
      let above_x = sorted_head cmp x xs up in
      let above_y = sorted_head cmp y ys up' in
      let same : x ≡ y =
      elim (to x (inl refl)) [
        | inl e ↦ e
        | inr i ↦
            elim (from y (inl refl)) [
              | inl e ↦ sym e
              | inr k ↦ absurd (itself x (o.trans x y x
                  (all_in (λ w. cmp x w ≡ Less) xs above_x y k)
                  (all_in (λ w. cmp y w ≡ Less) ys above_y x i)))
            ]
      ] in
      let to' : (z : X) → In z (x ∷ xs) → In z (x ∷ ys) =
      subst (λ w. (z : X) → In z (x ∷ xs) → In z (w ∷ ys)) (sym same) to in
      let from' : (z : X) → In z (x ∷ ys) → In z (x ∷ xs) =
      subst (λ w. (z : X) → In z (w ∷ ys) → In z (x ∷ xs)) (sym same) from in
      let above : AllByRecursion (λ z. cmp x z ≡ Less) ys =
      subst (λ w. AllByRecursion (λ z. cmp w z ≡ Less) ys) (sym same) above_y in
      ap (λ w. w ∷ xs) same
      ∙ ap (λ zs. y ∷ zs) (same_members xs ys (sorted_tail cmp x xs up) (sorted_tail cmp y ys up')
      (tail_in x xs ys above_x to') (tail_in x ys xs above from'))

  -- so are those of which one is the other in another order
  pub one_order : (xs ys : List X) → IsStrictlySortedBy cmp xs → IsStrictlySortedBy cmp ys
      → IsPermutation xs ys → xs ≡ ys
  one_order xs ys up up' p =
      same_members xs ys up up' (λ z. in-permutation xs ys z p)
      (λ z. in-permutation ys xs z (IsPermutation-sym xs ys p))

  -- ---- insertion sorts what doesn't tie

  all-placed : (P : X → Type 0) (x : X) (xs : List X) → P x → AllByRecursion P xs
      → AllByRecursion P (insert_in_order before x xs)
  all-placed P x [] h hs = (h, tt)
  all-placed P x (y ∷ ys) h hs =
      elim (before x y) as
      (λ b. AllByRecursion P (cond b (x ∷ y ∷ ys) (y ∷ insert_in_order before x ys)))
      [ true ↦ (h, hs) | false ↦ (hs.0, all-placed P x ys h hs.1) ]

  all-sorted : (P : X → Type 0) (xs : List X) → AllByRecursion P xs
      → AllByRecursion P (sorted before xs)
  all-sorted P [] h = tt
  all-sorted P (x ∷ xs) h = all-placed P x (sorted before xs) h.0 (all-sorted P xs h.1)

  -- what precedes the first precedes all
  below_all : (x y : X) (ys : List X) → cmp x y ≡ Less → AllByRecursion (λ z. cmp y z ≡ Less) ys
      → AllByRecursion (λ z. cmp x z ≡ Less) ys
  below_all x y [] h hs = tt
  below_all x y (z ∷ zs) h hs = (o.trans x y z h hs.0, below_all x y zs h hs.1)

  ordered-placed : (x : X) (xs : List X) → AllByRecursion (λ y. eq_by_cmp cmp x y ≡ false) xs
      → IsStrictlySortedBy cmp xs → IsStrictlySortedBy cmp (insert_in_order before x xs)
  unfolding IsStrictlySortedBy
  ordered-placed x [] a up = (tt, tt)
  ordered-placed x (y ∷ ys) a up =
      (elim (cmp x y) as (λ r. cmp x y ≡ r
      → IsStrictlySortedBy cmp (cond (is_lt r) (x ∷ y ∷ ys) (y ∷ insert_in_order before x ys))) [
        | Less ↦ (λ e. ((e, below_all x y ys e up.0), up))
        | Equal ↦ (λ e. absurd (false≢true (sym a.0 ∙ ap is_eq e)))
        | Greater ↦ (λ e. (
          all-placed (λ z. cmp y z ≡ Less) x ys
              (o.antisymm y x ∙ ap ordering_reverse e) up.0,
          ordered-placed x ys a.1 up.1,
        ))
      ]) refl

  pub ordered-sorted : (xs : List X) → IsDistinct (eq_by_cmp cmp) xs
      → IsStrictlySortedBy cmp (sorted before xs)
  unfolding IsDistinct IsStrictlySortedBy
  ordered-sorted [] h = tt
  ordered-sorted (x ∷ xs) h =
      ordered-placed x (sorted before xs)
      (all-sorted (λ y. eq_by_cmp cmp x y ≡ false) xs h.0) (ordered-sorted xs h.1)

  -- ---- and so does any sort

  -- a tie is one both ways round
  flips : (x y : X) → eq_by_cmp cmp x y ≡ eq_by_cmp cmp y x
  flips x y =
      ap is_eq (o.antisymm x y)
      ∙ (elim (cmp y x) as (λ r. is_eq (ordering_reverse r) ≡ is_eq r)
      [ Less ↦ refl | Equal ↦ refl | Greater ↦ refl ])

  -- no step goes down, and nothing ties
  strict : (ys : List X) → IsDistinct (eq_by_cmp cmp) ys → IsSortedBy before ys
      → IsStrictlySortedBy cmp ys
  unfolding IsStrictlySortedBy
  strict [] a up = tt
  strict (y ∷ ys) a up =
      sorted_from_all_adjacent o (y ∷ ys) y
      (λ k h. rises (cmp (get_or (y ∷ ys) k y) (get_or (y ∷ ys) (k + 1) y))
      (ap is_lt (sym (o.antisymm (get_or (y ∷ ys) (k + 1) y) (get_or (y ∷ ys) k y)))
      ∙ up k y (omega arith) h)
      (apart_from_distinct (eq_by_cmp cmp) (y ∷ ys) k (k + 1) y a (omega arith) h))

  pub strict_from_sort : (xs ys : List X) → IsDistinct (eq_by_cmp cmp) xs → IsPermutation xs ys
      → IsSortedBy before ys → IsStrictlySortedBy cmp ys
  strict_from_sort xs ys a p up =
      strict ys (IsDistinct-IsPermutation (eq_by_cmp cmp) flips xs ys p a) up
