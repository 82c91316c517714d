-- Rows that stand for all, as documents come.
use Rattle.std.proofs.Common.{◌≡◌, ℕ, Some, zero, suc, length-append, ◌-◌, ◌<◌, ◌≤◌, Bool, true, false, cond, List, [], ◌∷◌, ◌++◌, take, drop, length, get_or, append_assoc, refl, sym, ap, ◌∙◌, subst, arith}
use Rattle.std.proofs.lemmas.Bool.{false≢true}
use Rattle.std.proofs.lemmas.List.{get_or-take, take-append-le, take-append-drop, take-take, length-take-le}
use Rattle.std.proofs.lemmas.List.Sorted.{IsPermutation-middle, IsPermutation-append_left, length_permutation}
use Rattle.std.specs.List.{AllByRecursion, IsDistinct, cons_option}
use Rattle.std.specs.List.Sorted.{IsPermutation, IsStrictlySortedBy}
use Rattle.std.specs.Ordering.{eq_by_cmp}
use Rattle.std.specs.declared.cmp.Ordering.{Ordering}
use Rattle.std.specs.declared.cmp.Ordering.TheVariants.{Less}
use Rattle.rx_value.specs.Named.{named}
use Rattle.rx_value.proofs.Lists.{all_taken}
use Rattle.rx_document.specs.Documents.{Documents}
use Rattle.rx_document.specs.declared.stored.Stored.{Stored}
use Rattle.rx_query.proofs.Sorting.{sorted-permutes, ordered-sorted}
use Rattle.rx_query.specs.QuerySpec.{QuerySpec}
use Rattle.rx_query.specs.Lists.{insert_in_order, sorted}
use Rattle.rx_query.specs.Result.{stored_cmp, stored_before}
use Rattle.rx_planner.specs.Rows.{if_due, due_among, StandsFor}
use Rattle.rx_planner.proofs.Members.{distinct_front}
use Rattle.rx_planner.proofs.Rising.{stored_total, rising_strict, upward, all_placed, take_all_placed, differ, differ_moved, sorted_already, sorted_alike, placed_sorted}

-- ---- lists

-- the first of what is in order are in order
module _ {X : Type 0} where
  strict_take : (cmp : X → X → Ordering) (n : ℕ) (xs : List X) → IsStrictlySortedBy cmp xs
      → IsStrictlySortedBy cmp (take n xs)
  unfolding IsStrictlySortedBy
  strict_take cmp zero xs up = tt
  strict_take cmp (suc n) [] up = tt
  strict_take cmp (suc n) (x ∷ xs) up =
      (all_taken (λ y. cmp x y ≡ Less) n xs up.0, strict_take cmp n xs up.1)

  -- and none of what is distinct is again where some go
  all_without : (P : X → Type 0) (xs ys zs : List X) → AllByRecursion P (xs ++ (ys ++ zs))
      → AllByRecursion P (xs ++ zs)
  all_without P [] [] zs h = h
  all_without P [] (y ∷ ys) zs h = all_without P [] ys zs h.1
  all_without P (x ∷ xs) ys zs h = (h.0, all_without P xs ys zs h.1)

  distinct_without : (same : X → X → Bool) (xs ys zs : List X)
      → IsDistinct same (xs ++ (ys ++ zs)) → IsDistinct same (xs ++ zs)
  unfolding IsDistinct
  distinct_without same [] [] zs h = h
  distinct_without same [] (y ∷ ys) zs h = distinct_without same [] ys zs h.1
  distinct_without same (x ∷ xs) ys zs h =
      (all_without (λ y. same x y ≡ false) xs ys zs h.0, distinct_without same xs ys zs h.1)

  -- one that precedes none stands behind all
  behind_all : (before : X → X → Bool) (x : X) (xs : List X)
      → ((k : ℕ) (d : X) → k < length xs → before x (get_or xs k d) ≡ false)
      → take (length xs) (insert_in_order before x xs) ≡ xs
  behind_all before x [] none = refl
  behind_all before x (y ∷ ys) none =
      ap (λ b. take (suc (length ys)) (cond b (x ∷ y ∷ ys) (y ∷ insert_in_order before x ys)))
      (none 0 y (omega arith))
      ∙ ap (λ zs. y ∷ zs) (behind_all before x ys (λ k d h. none (suc k) d (omega arith)))

-- ---- rows

module _ (q : QuerySpec) where
  abbrev before : Stored → Stored → Bool
  before = stored_before q

  -- what doesn't precede the last of rows in order precedes none
  precedes_none : (d : Stored) (rows : List Stored) → IsStrictlySortedBy (stored_cmp q) rows
      → ((e : Stored) → before d (get_or rows (length rows - 1) e) ≡ false)
      → (k : ℕ) (e : Stored) → k < length rows → before d (get_or rows k e) ≡ false
  precedes_none d rows up last k e h =
      (elim (before d (get_or rows k e)) as (λ b. before d (get_or rows k e) ≡ b → b ≡ false) [
        | false ↦ (λ _. refl)
        | true ↦ (λ is. absurd (false≢true (sym (last e)
            ∙ upward (stored_cmp q) (stored_total q) d rows k (length rows - 1) e
            (rising_strict (stored_cmp q) (stored_total q) rows up) (omega arith)
            (omega arith) is)))
      ]) refl

  -- rows in front and some behind them, as all of them
  module _ (n : ℕ) (rows rest : List Stored) where
    abbrev front : List Stored
    front = take n rows

    abbrev back : List Stored
    back = drop n rows ++ rest

    parts : front ++ back ≡ rows ++ rest
    parts =
        sym (append_assoc (take n rows) (drop n rows) rest)
        ∙ ap (λ xs. xs ++ rest) (take-append-drop n rows)

  -- one that comes after the first n is left out
  left_out : (n : ℕ) (rows rest : List Stored) (d : Stored) → n ≤ length rows
      → IsStrictlySortedBy (stored_cmp q) (take n rows) → differ q (rows ++ d ∷ rest)
      → ((k : ℕ) (e : Stored) → k < n → before d (get_or (take n rows) k e) ≡ false)
      → take n (sorted before (rows ++ rest)) ≡ take n (sorted before (rows ++ d ∷ rest))
  left_out n rows rest d many up apart none =
      let first = front n rows rest in
      let others = back n rows rest in
      let is = parts n rows rest in
      let long : length first ≡ n = length-take-le n rows many in
      let moved : IsPermutation (rows ++ d ∷ rest) (d ∷ (rows ++ rest)) =
      IsPermutation-middle rows d rest in
      let with_it : differ q (d ∷ (rows ++ rest)) =
      differ_moved q (rows ++ d ∷ rest) (d ∷ (rows ++ rest)) moved apart in
      let with_parts : differ q ((d ∷ first) ++ others) =
      subst (λ xs. differ q (d ∷ xs)) (sym is) with_it in
      let without_it : differ q (first ++ others) =
      distinct_without (eq_by_cmp (stored_cmp q)) [] (d ∷ []) (first ++ others) with_parts in
      let alone : differ q first =
      distinct_front (eq_by_cmp (stored_cmp q)) first others without_it in
      let already : sorted before first ≡ first = sorted_already q first up alone in
      let cut : take n (insert_in_order before d first) ≡ first =
      subst (λ k. take k (insert_in_order before d first) ≡ first) long
      (behind_all before d first (λ k e h. none k e (omega (arith, long, h)))) in
      sym (ap (λ xs. take n (sorted before xs)) is)
      ∙ ap (take n) (sym (placed_sorted q first others without_it))
      ∙ ap (λ xs. take n (all_placed q xs others)) (already ∙ sym cut)
      ∙ take_all_placed q n (insert_in_order before d first) others
      ∙ ap (λ xs. take n (all_placed q (insert_in_order before d xs) others)) (sym already)
      ∙ ap (take n) (placed_sorted q (d ∷ first) others with_parts)
      ∙ ap (λ xs. take n (sorted before (d ∷ xs))) is
      ∙ ap (take n) (sym (sorted_alike q (rows ++ d ∷ rest) (d ∷ (rows ++ rest)) moved apart))

  -- the first n sorted stand for all of them
  module _ (n : ℕ) (rows rest : List Stored) (apart : differ q (rows ++ rest)) where
    moved : IsPermutation (rows ++ rest) (sorted before rows ++ rest)
    moved = IsPermutation-append_left rest rows (sorted before rows) (sorted-permutes before rows)

    sorted_apart : differ q (sorted before rows ++ rest)
    sorted_apart = differ_moved q (rows ++ rest) (sorted before rows ++ rest) moved apart

    top_apart : differ q (take n (sorted before rows) ++ rest)
    top_apart =
        distinct_without (eq_by_cmp (stored_cmp q)) (take n (sorted before rows))
        (drop n (sorted before rows)) rest
        (subst (differ q) (sym (parts n (sorted before rows) rest)) sorted_apart)

    rows_apart : differ q rows
    rows_apart = distinct_front (eq_by_cmp (stored_cmp q)) rows rest apart

    top_up : IsStrictlySortedBy (stored_cmp q) (take n (sorted before rows))
    top_up =
        strict_take (stored_cmp q) n (sorted before rows)
        (ordered-sorted (stored_cmp q) (stored_total q) rows rows_apart)

    top_first : take n (sorted before (take n (sorted before rows) ++ rest))
        ≡ take n (sorted before (rows ++ rest))
    top_first =
        let top = take n (sorted before rows) in
        ap (take n) (sym (placed_sorted q top rest top_apart))
        ∙ ap (λ xs. take n (all_placed q xs rest))
        (sorted_already q top top_up
        (distinct_front (eq_by_cmp (stored_cmp q)) top rest top_apart))
        ∙ take_all_placed q n (sorted before rows) rest
        ∙ ap (take n) (placed_sorted q rows rest apart)

    top_many : n ≤ length rows → n ≤ length (take n (sorted before rows))
    top_many many =
        let long = length_permutation rows (sorted before rows) (sorted-permutes before rows) in
        let cut = length-take-le n (sorted before rows) (omega (arith, long, many)) in
        omega (arith, cut)

-- ---- what they stand for

-- rows in order stand for themselves
pub stand : (q : QuerySpec) (n : ℕ) (rows rest : List Stored) → n ≡ length rows
    → IsStrictlySortedBy (stored_cmp q) rows → differ q (rows ++ rest)
    → StandsFor q n (rows ++ rest) rows rest
stand q n rows rest many up apart = record {
  as_many = omega (arith, many);
  in_order = strict_take (stored_cmp q) n rows up;
  apart = apart;
  first = refl;
}

-- of the primary keys to come the next is one of a due document, or of none
module _ (q : QuerySpec) (documents : Documents) (n : ℕ) (all rows : List Stored)
    (ids : List (List ℕ)) (id : List ℕ) (rest : List (List ℕ)) (step : ids ≡ id ∷ rest)
    (s : StandsFor q n all rows (due_among q documents ids)) where
  next : StandsFor q n all rows (due_among q documents (id ∷ rest))
  next = subst (λ is. StandsFor q n all rows (due_among q documents is)) step s

  pub next_some : (d : Stored) → if_due q (named documents id) ≡ Some d
      → StandsFor q n all rows (d ∷ due_among q documents rest)
  next_some d is =
      subst (λ o. StandsFor q n all rows (cons_option o (due_among q documents rest))) is next

module _ (q : QuerySpec) (n : ℕ) (all rows rest : List Stored) (d : Stored)
    (s : StandsFor q n all rows (d ∷ rest)) where
  -- they do without one that comes after the first n
  pub stand_without : ((k : ℕ) (e : Stored) → k < n
      → stored_before q d (get_or (take n rows) k e) ≡ false) → StandsFor q n all rows rest
  stand_without none = record {
    as_many = s.as_many;
    in_order = s.in_order;
    apart = distinct_without (eq_by_cmp (stored_cmp q)) rows (d ∷ []) rest s.apart;
    first = left_out q n rows rest d s.as_many s.in_order s.apart none ∙ s.first;
  }

  -- which is so where it doesn't precede the last of them
  pub comes_after : ((e : Stored) → stored_before q d (get_or rows (n - 1) e) ≡ false)
      → (k : ℕ) (e : Stored) → k < n → stored_before q d (get_or (take n rows) k e) ≡ false
  comes_after last k e h =
      let long : length (take n rows) ≡ n = length-take-le n rows s.as_many in
      precedes_none q d (take n rows) s.in_order
      (λ f. ap (λ m. stored_before q d (get_or (take n rows) (m - 1) f)) long
      ∙ ap (stored_before q d) (get_or-take n rows (n - 1) f (omega (arith, h))) ∙ last f)
      k e (omega (arith, long, h))

  -- with it behind them
  pub stand_with : StandsFor q n all (rows ++ d ∷ []) rest
  stand_with =
      let is : (rows ++ d ∷ []) ++ rest ≡ rows ++ d ∷ rest = append_assoc rows (d ∷ []) rest in
      record {
        as_many = (let long = length-append rows (d ∷ []) in let m = s.as_many in
            omega (arith, long, m));
        in_order = subst (IsStrictlySortedBy (stored_cmp q))
            (sym (take-append-le n rows (d ∷ []) s.as_many)) s.in_order;
        apart = subst (differ q) (sym is) s.apart;
        first = ap (λ xs. take n (sorted (stored_before q) xs)) is ∙ s.first;
      }

-- settled, the first n stand for them
pub stand_settled : (q : QuerySpec) (n : ℕ) (all rows now rest : List Stored)
    → StandsFor q n all rows rest → now ≡ take n (sorted (stored_before q) rows)
    → StandsFor q n all now rest
stand_settled q n all rows now rest s is =
    let top = take n (sorted (stored_before q) rows) in
    subst (λ xs. StandsFor q n all xs rest) (sym is) (record {
      as_many = top_many q n rows rest s.apart s.as_many;
      in_order = subst (IsStrictlySortedBy (stored_cmp q))
          (sym (take-take n n (sorted (stored_before q) rows) (omega arith)))
          (top_up q n rows rest s.apart);
      apart = top_apart q n rows rest s.apart;
      first = top_first q n rows rest s.apart ∙ s.first;
    })
