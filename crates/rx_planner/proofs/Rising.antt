-- Rows in order, and placing one among them.
use Rattle.std.proofs.Common.{◌≡◌, ℕ, zero, suc, ◌<◌, ◌≤◌, Bool, true, false, List, [], ◌∷◌, ◌++◌, map, take, length, get_or, Bor, Ordering, Less, Equal, Greater, refl, sym, ap, ◌∙◌, arith}
use Rattle.std.proofs.lemmas.Bool.{false≢true}
use Rattle.std.proofs.lemmas.Cmp.{on_total}
use Rattle.std.proofs.lemmas.List.{append-nil, take-take}
use Rattle.std.proofs.lemmas.List.Sorted.{IsPermutation-refl, IsPermutation-sym, IsPermutation-map, IsPermutation-trans, IsPermutation-middle}
use Rattle.std.proofs.lemmas.Map.Keys.{IsDistinct-IsPermutation}
use Rattle.std.specs.Cmp.{IsTotalOrder}
use Rattle.std.specs.List.{AllByRecursion, IsDistinct}
use Rattle.std.specs.List.Sorted.{IsPermutation, IsSortedBy, IsStrictlySortedBy}
use Rattle.std.specs.Ordering.{is_eq, is_lt, eq_by_cmp, ordering_reverse}
use Rattle.rx_document.specs.declared.stored.Stored.{Stored}
use Rattle.rx_query.proofs.Orders.{query_total}
use Rattle.rx_query.proofs.Rows.{lent_cmp}
use Rattle.rx_query.proofs.Sorting.{sorted-permutes, one_order, ordered-sorted, strict_from_sort}
use Rattle.rx_query.specs.QuerySpec.{QuerySpec}
use Rattle.rx_query.specs.Lists.{insert_in_order, sorted}
use Rattle.rx_query.specs.Result.{stored_cmp, stored_before}
use Rattle.rx_planner.proofs.Lists.{take_placed}

-- none precedes an earlier one
abbrev pub IsRising : {X : Type 0} → (X → X → Bool) → List X → Type 0
IsRising precedes [] = Unit {0}
IsRising precedes (x ∷ xs) = AllByRecursion (λ y. precedes y x ≡ false) xs × IsRising precedes xs

module _ {X : Type 0} (cmp : X → X → Ordering) (o : IsTotalOrder cmp) where
  abbrev before : X → X → Bool
  before x y = is_lt (cmp x y)

  less : (x y : X) → before x y ≡ true → cmp x y ≡ Less
  less x y h = (elim (cmp x y) as (λ r. is_lt r ≡ true → r ≡ Less)
      [ Less ↦ (λ _. refl) | Equal ↦ (λ e. cc) | Greater ↦ (λ e. cc) ]) h

  -- what is lower doesn't come after
  not_after : (x y : X) → cmp x y ≡ Less → before y x ≡ false
  not_after x y h = ap is_lt (o.antisymm y x ∙ ap ordering_reverse h)

  -- what precedes one precedes what doesn't precede that one
  far : (x y z : X) → before x y ≡ true → before z y ≡ false → before x z ≡ true
  far x y z h k =
      (elim (cmp y z) as (λ r. cmp y z ≡ r → before x z ≡ true) [
        | Less ↦ (λ e. ap is_lt (o.trans x y z (less x y h) e))
        | Equal ↦ (λ e.
            let back : cmp z y ≡ Equal = o.antisymm z y ∙ ap ordering_reverse e in
            ap is_lt (o.antisymm x z ∙ ap ordering_reverse (o.congr z y x back)
            ∙ sym (o.antisymm x y)) ∙ h)
        | Greater ↦ (λ e. absurd (false≢true (sym k
            ∙ ap is_lt (o.antisymm z y ∙ ap ordering_reverse e))))
      ]) refl

  not_after_all : (x : X) (xs : List X) → AllByRecursion (λ z. cmp x z ≡ Less) xs
      → AllByRecursion (λ z. before z x ≡ false) xs
  not_after_all x [] h = tt
  not_after_all x (z ∷ zs) h = (not_after x z h.0, not_after_all x zs h.1)

  pub rising_strict : (xs : List X) → IsStrictlySortedBy cmp xs → IsRising before xs
  unfolding IsStrictlySortedBy
  rising_strict [] up = tt
  rising_strict (x ∷ xs) up = (not_after_all x xs up.0, rising_strict xs up.1)

  -- what precedes one precedes all after it
  far_all : (x y : X) (ys : List X) (j : ℕ) (d : X) → j < length ys → before x y ≡ true
      → AllByRecursion (λ z. before z y ≡ false) ys → before x (get_or ys j d) ≡ true
  far_all x y [] j d l h hs = absurd (omega arith)
  far_all x y (z ∷ zs) zero d l h hs = far x y z h hs.0
  far_all x y (z ∷ zs) (suc j) d l h hs = far_all x y zs j d (omega arith) h hs.1

  pub upward : (x : X) (xs : List X) (i j : ℕ) (d : X) → IsRising before xs → i ≤ j → j < length xs
      → before x (get_or xs i d) ≡ true → before x (get_or xs j d) ≡ true
  upward x [] i j d up le l h = absurd (omega arith)
  upward x (y ∷ ys) zero zero d up le l h = h
  upward x (y ∷ ys) zero (suc j) d up le l h = far_all x y ys j d (omega arith) h up.0
  upward x (y ∷ ys) (suc i) zero d up le l h = absurd (omega arith)
  upward x (y ∷ ys) (suc i) (suc j) d up le l h =
      upward x ys i j d up.1 (omega arith) (omega arith) h

-- ---- documents

pub stored_total : (q : QuerySpec) → IsTotalOrder (stored_cmp q)
stored_total q = on_total (λ (d : Stored). d.state.fields) (query_total q)

-- ---- one document after another

-- each placed in turn among rows in order
abbrev pub all_placed : QuerySpec → List Stored → List Stored → List Stored
all_placed q rows [] = rows
all_placed q rows (d ∷ ds) = all_placed q (insert_in_order (stored_before q) d rows) ds

-- the first n don't depend on rows behind them
pub take_all_placed : (q : QuerySpec) (n : ℕ) (rows ds : List Stored)
    → take n (all_placed q (take n rows) ds) ≡ take n (all_placed q rows ds)
take_all_placed q n rows [] = take-take n n rows (omega arith)
take_all_placed q n rows (d ∷ ds) =
    sym (take_all_placed q n (insert_in_order (stored_before q) d (take n rows)) ds)
    ∙ ap (λ xs. take n (all_placed q xs ds)) (take_placed (stored_before q) n d rows)
    ∙ take_all_placed q n (insert_in_order (stored_before q) d rows) ds

-- ---- placed one by one, or sorted

abbrev pub turned_onto : List Stored → List Stored → List Stored
turned_onto [] xs = xs
turned_onto (d ∷ ds) xs = turned_onto ds (d ∷ xs)

pub all_placed-sorted : (q : QuerySpec) (xs ds : List Stored)
    → all_placed q (sorted (stored_before q) xs) ds ≡ sorted (stored_before q) (turned_onto ds xs)
all_placed-sorted q xs [] = refl
all_placed-sorted q xs (d ∷ ds) = all_placed-sorted q (d ∷ xs) ds

pub turned_permutes : (ds xs : List Stored) → IsPermutation (xs ++ ds) (turned_onto ds xs)
turned_permutes [] xs = rw (append-nil xs) (IsPermutation-refl xs)
turned_permutes (d ∷ ds) xs =
    IsPermutation-trans (xs ++ d ∷ ds) (d ∷ (xs ++ ds)) (turned_onto ds (d ∷ xs))
    (IsPermutation-middle xs d ds) (turned_permutes ds (d ∷ xs))

-- ---- sorted alike

abbrev pub differ : QuerySpec → List Stored → Type 0
differ q = IsDistinct (eq_by_cmp (stored_cmp q))

-- a tie is one either way round
pub flips : (q : QuerySpec) (x y : Stored)
    → eq_by_cmp (stored_cmp q) x y ≡ eq_by_cmp (stored_cmp q) y x
flips q x y =
    ap is_eq ((stored_total q).antisymm x y)
    ∙ (elim (stored_cmp q y x) as (λ r. is_eq (ordering_reverse r) ≡ is_eq r)
    [ Less ↦ refl | Equal ↦ refl | Greater ↦ refl ])

pub differ_moved : (q : QuerySpec) (xs ys : List Stored) → IsPermutation xs ys → differ q xs
    → differ q ys
differ_moved q xs ys moved h =
    IsDistinct-IsPermutation (eq_by_cmp (stored_cmp q)) (flips q) xs ys moved h

-- rows that don't tie are sorted alike, however they stand
pub sorted_alike : (q : QuerySpec) (xs ys : List Stored) → IsPermutation xs ys → differ q xs
    → sorted (stored_before q) xs ≡ sorted (stored_before q) ys
sorted_alike q xs ys moved h =
    let before = stored_before q in
    one_order (stored_cmp q) (stored_total q) (sorted before xs) (sorted before ys)
    (ordered-sorted (stored_cmp q) (stored_total q) xs h)
    (ordered-sorted (stored_cmp q) (stored_total q) ys (differ_moved q xs ys moved h))
    (IsPermutation-trans (sorted before xs) xs (sorted before ys)
    (IsPermutation-sym xs (sorted before xs) (sorted-permutes before xs))
    (IsPermutation-trans xs ys (sorted before ys) moved (sorted-permutes before ys)))

-- rows in order are sorted
pub sorted_already : (q : QuerySpec) (xs : List Stored) → IsStrictlySortedBy (stored_cmp q) xs
    → differ q xs → sorted (stored_before q) xs ≡ xs
sorted_already q xs up h =
    one_order (stored_cmp q) (stored_total q) (sorted (stored_before q) xs) xs
    (ordered-sorted (stored_cmp q) (stored_total q) xs h) up
    (IsPermutation-sym xs (sorted (stored_before q) xs) (sorted-permutes (stored_before q) xs))

-- to place some among others sorted is to sort all
pub placed_sorted : (q : QuerySpec) (xs ds : List Stored) → differ q (xs ++ ds)
    → all_placed q (sorted (stored_before q) xs) ds ≡ sorted (stored_before q) (xs ++ ds)
placed_sorted q xs ds h =
    all_placed-sorted q xs ds
    ∙ sym (sorted_alike q (xs ++ ds) (turned_onto ds xs) (turned_permutes ds xs) h)

-- ---- a sort

distinct_lent : (same : Stored → Stored → Bool) (rows : List (Bor Stored))
    → IsDistinct same (map (λ r. r.now) rows)
    → IsDistinct (λ (a b : Bor Stored). same a.now b.now) rows
unfolding IsDistinct
distinct_lent same [] h = tt
distinct_lent same (r ∷ rs) h = (others rs h.0, distinct_lent same rs h.1)
  where
    others : (xs : List (Bor Stored))
        → AllByRecursion (λ y. same r.now y ≡ false) (map (λ x. x.now) xs)
        → AllByRecursion (λ (y : Bor Stored). same r.now y.now ≡ false) xs
    others [] k = tt
    others (x ∷ xs) k = (k.0, others xs k.1)

strict_lent : (cmp : Stored → Stored → Ordering) (rows : List (Bor Stored))
    → IsStrictlySortedBy (λ (a b : Bor Stored). cmp a.now b.now) rows
    → IsStrictlySortedBy cmp (map (λ r. r.now) rows)
unfolding IsStrictlySortedBy
strict_lent cmp [] h = tt
strict_lent cmp (r ∷ rs) h = (others rs h.0, strict_lent cmp rs h.1)
  where
    others : (xs : List (Bor Stored))
        → AllByRecursion (λ (y : Bor Stored). cmp r.now y.now ≡ Less) xs
        → AllByRecursion (λ y. cmp r.now y ≡ Less) (map (λ x. x.now) xs)
    others [] k = tt
    others (x ∷ xs) k = (k.0, others xs k.1)

-- lent rows that don't tie, once they are sorted
pub sort_is : (q : QuerySpec) (rows all : List (Bor Stored))
    → IsDistinct (eq_by_cmp (stored_cmp q)) (map (λ r. r.now) rows) → IsPermutation rows all
    → IsSortedBy (λ a b. is_lt (lent_cmp q a b)) all
    → map (λ r. r.now) all ≡ sorted (stored_before q) (map (λ r. r.now) rows)
sort_is q rows all differ moved up =
    let now : Bor Stored → Stored = λ d. d.now in
    let seen = map now rows in
    one_order (stored_cmp q) (stored_total q) (map now all) (sorted (stored_before q) seen)
    (strict_lent (stored_cmp q) all
    (strict_from_sort (lent_cmp q) (on_total now (stored_total q)) rows all
    (distinct_lent (eq_by_cmp (stored_cmp q)) rows differ) moved up))
    (ordered-sorted (stored_cmp q) (stored_total q) seen differ)
    (IsPermutation-trans (map now all) seen (sorted (stored_before q) seen)
    (IsPermutation-sym seen (map now all) (IsPermutation-map now rows all moved))
    (sorted-permutes (stored_before q) seen))
