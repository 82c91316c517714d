-- The fields by which a walk goes, and the order that they give.
use Rattle.std.proofs.Common.{◌≡◌, ℕ, zero, suc, ◌+◌, ◌≤◌, ◌==◌, Bool, true, false, not, cond, ◌&&◌, List, [], ◌∷◌, ◌++◌, map, take, drop, length, slice_get, Option, Some, None, is_some, Less, Equal, Greater, refl, sym, ap, ◌∙◌, arith}
use Rattle.std.proofs.Math.Seq.{take-nil}
use Rattle.std.proofs.lemmas.Bool.{false≢true, and_parts}
use Rattle.std.proofs.lemmas.Bool.Decides.{Decides-eqb}
use Rattle.std.proofs.lemmas.Cmp.{tied_itself}
use Rattle.std.proofs.lemmas.List.{take-append-drop}
use Rattle.std.proofs.lemmas.Slice.Eq.{bytes_eq-Decides}
use Rattle.std.specs.Bool.{beq}
use Rattle.std.specs.Ordering.{ordering_then}
use Rattle.std.specs.Str.{bytes_eq}
use Rattle.rx_value.proofs.Ordered.{order_total}
use Rattle.rx_value.specs.Fields.{Pairs}
use Rattle.rx_value.specs.Named.{named}
use Rattle.rx_value.specs.Order.{order_of}
use Rattle.rx_value.specs.declared.value.Value.{Value}
use Rattle.rx_selector.specs.Holding.{all_hold}
use Rattle.rx_selector.specs.declared.tree.Compare.TheVariants.{Eq}
use Rattle.rx_query.specs.QuerySpec.{Sorts, QuerySpec}
use Rattle.rx_query.specs.Order.{field_cmp, sort_cmp, sorts_cmp, query_cmp}
use Rattle.rx_index.specs.Position.{values_cmp}
use Rattle.rx_planner.specs.Plan.{Names, operand, is_fixed, leading, rest_of, strict, loose, end_by, end_at, fixed_or, bound_at, bound_of}
use Rattle.rx_planner.specs.Way.{falls, goes_by, matched, front, fits}
use Rattle.rx_planner.proofs.Selected.{fixed_value}

-- ---- how long

-- as many first fields
pub front_is : (q : QuerySpec) (path : Names)
    → take (leading q path + matched (falls q) q.sorts (rest_of q path)) path ≡ front q path
front_is q [] = take-nil (leading q [] + matched (falls q) q.sorts [])
front_is q (f ∷ fs) =
    elim (is_fixed q f) as (λ b. take (cond b (suc (leading q fs)) 0
    + matched (falls q) q.sorts (drop (cond b (suc (leading q fs)) 0) (f ∷ fs))) (f ∷ fs)
    ≡ cond b (f ∷ front q fs) (take (matched (falls q) q.sorts (f ∷ fs)) (f ∷ fs))) [
      | true ↦
          let m = matched (falls q) q.sorts (rest_of q fs) in
          let e : suc (leading q fs) + m ≡ suc (leading q fs + m) = omega arith in
          ap (λ n. take n (f ∷ fs)) e ∙ ap (λ gs. f ∷ gs) (front_is q fs)
      | false ↦
          let m = matched (falls q) q.sorts (f ∷ fs) in
          let e : 0 + m ≡ m = omega arith in ap (λ n. take n (f ∷ fs)) e
    ]

-- the front of a path, and the others
pub front_parts : (q : QuerySpec) (path : Names) → (rest : Names) × (path ≡ front q path ++ rest)
front_parts q path =
    let n = leading q path + matched (falls q) q.sorts (rest_of q path) in
    (drop n path, sym (take-append-drop n path) ∙ ap (λ fs. fs ++ drop n path) (front_is q path))

-- ---- counting

slice_drop : {X : Type 0} (xs : List X) (i : ℕ) → slice_get (drop i xs) 0 ≡ slice_get xs i
slice_drop [] zero = refl
slice_drop [] (suc i) = refl
slice_drop (x ∷ xs) zero = refl
slice_drop (x ∷ xs) (suc i) = slice_drop xs i

drop_next : {X : Type 0} (xs : List X) (i : ℕ) → drop 1 (drop i xs) ≡ drop (i + 1) xs
drop_next xs i = after xs i ∙ ap (λ n. drop n xs) (let e : suc i ≡ i + 1 = omega arith in e)
  where
    after : {X : Type 0} (xs : List X) (i : ℕ) → drop 1 (drop i xs) ≡ drop (suc i) xs
    after [] zero = refl
    after [] (suc i) = refl
    after (x ∷ xs) zero = refl
    after (x ∷ xs) (suc i) = after xs i

matched_first : (desc : Bool) (ss : Sorts) (f : List ℕ) (fs : Names) (b : Bool)
    → goes_by (slice_get ss 0) f desc ≡ b
    → matched desc ss (f ∷ fs) ≡ cond b (suc (matched desc (drop 1 ss) fs)) 0
matched_first desc [] f fs b is = ap (λ c. cond c (suc (matched desc [] fs)) 0) is
matched_first desc (s ∷ ss) f fs b is = ap (λ c. cond c (suc (matched desc ss fs)) 0) is

-- the next field goes on or doesn't
pub matched_at : (desc : Bool) (ss : Sorts) (i : ℕ) (f : List ℕ) (fs : Names) (b : Bool)
    → goes_by (slice_get ss i) f desc ≡ b
    → matched desc (drop i ss) (f ∷ fs) ≡ cond b (suc (matched desc (drop (i + 1) ss) fs)) 0
matched_at desc ss i f fs b is =
    matched_first desc (drop i ss) f fs b
    (ap (λ o. goes_by o f desc) (slice_drop ss i) ∙ is)
    ∙ ap (λ xs. cond b (suc (matched desc xs fs)) 0) (drop_next ss i)

pub matched_none : (desc : Bool) (ss : Sorts) → matched desc ss [] ≡ 0
matched_none desc [] = refl
matched_none desc (s ∷ ss) = refl

pub drop_past : {X : Type 0} (n : ℕ) (xs : List X) → length xs ≤ n → drop n xs ≡ []
drop_past zero [] h = refl
drop_past zero (x ∷ xs) h = absurd (omega arith)
drop_past (suc n) [] h = refl
drop_past (suc n) (x ∷ xs) h = drop_past n xs (omega arith)

-- there is one at least
pub some_more : (n m : ℕ) → n ≡ m → (n ≡ 0 → ⊥) → true ≡ not (m == 0)
some_more n m is some =
    (elim (m == 0) as (λ b. (m == 0) ≡ b → true ≡ not b) [
      | true ↦ (λ z. absurd (some (is ∙ (Decides-eqb m 0).0 z)))
      | false ↦ (λ _. refl)
    ]) refl

-- it has a field behind those that are fixed
module _ (q : QuerySpec) where
  abbrev more : Names → Bool
  more path = not (matched (falls q) q.sorts (rest_of q path) == 0)

  some_field : (n : ℕ) (f : List ℕ) (fs : Names) → not (n == 0) ≡ true
      → 1 ≤ length (take n (f ∷ fs))
  some_field zero f fs h = absurd (false≢true h)
  some_field (suc n) f fs h = omega arith

  -- so the bounds have no more values
  bound_short : (up : Bool) (path : Names) → more path ≡ true
      → length (bound_at q up path).values ≤ length (front q path)
  bound_short up [] h = no_sorts q.sorts h
    where
      no_sorts : (ss : Sorts) → not (matched (falls q) ss [] == 0) ≡ true → 0 ≤ 0
      no_sorts ss h = omega arith
  bound_short up (f ∷ fs) h =
      (elim (operand q f Eq) as (λ o.
      not (matched (falls q) q.sorts (drop (cond (is_some o) (suc (leading q fs)) 0) (f ∷ fs)) == 0)
      ≡ true
      → length (fixed_or o (bound_at q up fs) (end_at q up f)).values
      ≤ length (cond (is_some o) (f ∷ front q fs)
      (take (matched (falls q) q.sorts (f ∷ fs)) (f ∷ fs)))) [
        | Some v ↦ (λ k. let rest = bound_short up fs k in omega (arith, rest))
        | None ↦ (λ k.
            let one = ends_short up (operand q f (strict up)) (operand q f (loose up)) in
            let some = some_field (matched (falls q) q.sorts (f ∷ fs)) f fs k in
            omega (arith, one, some))
      ]) h
    where
      ends_short : (up : Bool) (o l : Option Value) → length (end_by up o l).values ≤ 1
      ends_short up (Some v) l = omega arith
      ends_short up None (Some v) = omega arith
      ends_short up None None = omega arith

-- nor has a bound of a path
pub bound_long : (q : QuerySpec) (up : Bool) (path : Names) → fits q path ≡ true
    → length (bound_of q up path).values ≤ length (front q path) + 1
bound_long q up path fit = let most = bound_short q up path fit in omega (arith, most)

-- ---- the order

module _ (x y : Pairs) where
  abbrev pub values_of_x : Names → List (Option Value)
  values_of_x = map (λ f. named x f)

  abbrev pub values_of_y : Names → List (Option Value)
  values_of_y = map (λ f. named y f)

  -- by a field of the sort, which way it goes
  one_way : (desc : Bool) (f : List ℕ)
      → sort_cmp f desc (cond desc x y) (cond desc y x) ≡ order_of (named y f) (named x f)
  one_way true f = sym (order_total.antisymm (named y f) (named x f))
  one_way false f = refl

  -- by as many as the sort begins with
  by_sort : (desc : Bool) (ss : Sorts) (fs : Names)
      → values_cmp (values_of_y (take (matched desc ss fs) fs)) false
      (values_of_x (take (matched desc ss fs) fs)) false ≡ Less
      → sorts_cmp ss (cond desc x y) (cond desc y x) ≡ Less
  by_sort desc [] fs h = absurd (cc)
  by_sort desc (s ∷ ss) [] h = absurd (cc)
  by_sort desc (s ∷ ss) (f ∷ fs) h =
      (elim (bytes_eq s.0 f && beq s.1 desc) as (λ b. (bytes_eq s.0 f && beq s.1 desc) ≡ b
      → values_cmp (values_of_y (take (cond b (suc (matched desc ss fs)) 0) (f ∷ fs))) false
      (values_of_x (take (cond b (suc (matched desc ss fs)) 0) (f ∷ fs))) false ≡ Less
      → sorts_cmp (s ∷ ss) (cond desc x y) (cond desc y x) ≡ Less) [
        | false ↦ (λ _ bad. absurd (cc))
        | true ↦ (λ is less.
            let both = and_parts (bytes_eq s.0 f) (beq s.1 desc) is in
            let name : s.0 ≡ f = (bytes_eq-Decides s.0 f).0 both.0 in
            let way : s.1 ≡ desc = same_flag s.1 desc both.1 in
            let here : sort_cmp s.0 s.1 (cond desc x y) (cond desc y x)
            ≡ order_of (named y f) (named x f) =
            ap (λ n. sort_cmp n s.1 (cond desc x y) (cond desc y x)) name
            ∙ ap (λ d. sort_cmp f d (cond desc x y) (cond desc y x)) way ∙ one_way desc f in
            ap (λ o. ordering_then o (sorts_cmp ss (cond desc x y) (cond desc y x))) here
            ∙ (elim (order_of (named y f) (named x f)) as (λ o.
            ordering_then o (values_cmp (values_of_y (take (matched desc ss fs) fs)) false
            (values_of_x (take (matched desc ss fs) fs)) false) ≡ Less
            → ordering_then o (sorts_cmp ss (cond desc x y) (cond desc y x)) ≡ Less) [
              | Less ↦ (λ _. refl)
              | Equal ↦ (λ e. by_sort desc ss fs e)
              | Greater ↦ (λ bad. absurd (cc))
            ]) less)
      ]) refl h
    where
      same_flag : (a b : Bool) → beq a b ≡ true → a ≡ b
      same_flag true true h = refl
      same_flag false false h = refl
      same_flag true false h = absurd (false≢true h)
      same_flag false true h = absurd (false≢true h)

  module _ (q : QuerySpec) (hx : all_hold q.clauses x ≡ true) (hy : all_hold q.clauses y ≡ true)
    where
      -- fixed fields tie
      by_front : (path : Names)
          → values_cmp (values_of_y (front q path)) false (values_of_x (front q path)) false ≡ Less
          → sorts_cmp q.sorts (cond (falls q) x y) (cond (falls q) y x) ≡ Less
      by_front [] h = absurd (cc)
      by_front (f ∷ fs) h =
          (elim (operand q f Eq) as (λ o. operand q f Eq ≡ o
          → values_cmp
          (values_of_y (cond (is_some o) (f ∷ front q fs)
          (take (matched (falls q) q.sorts (f ∷ fs)) (f ∷ fs)))) false
          (values_of_x (cond (is_some o) (f ∷ front q fs)
          (take (matched (falls q) q.sorts (f ∷ fs)) (f ∷ fs)))) false ≡ Less
          → sorts_cmp q.sorts (cond (falls q) x y) (cond (falls q) y x) ≡ Less) [
            | None ↦ (λ _ less. by_sort (falls q) q.sorts (f ∷ fs) less)
            | Some v ↦ (λ is less.
                let rest =
                values_cmp (values_of_y (front q fs)) false (values_of_x (front q fs)) false in
                let tie : order_of (named y f) (named x f) ≡ Equal =
                ap (λ z. order_of z (named x f)) (fixed_value q f v y is hy)
                ∙ ap (order_of (Some v)) (fixed_value q f v x is hx)
                ∙ tied_itself order_total (Some v) in
                by_front fs (ap (λ o. ordering_then o rest) (sym tie) ∙ less))
          ]) refl h

      -- the one with the lower first values comes later where rows fall, and else first
      pub front_decides : (path : Names)
          → values_cmp (values_of_y (front q path)) false (values_of_x (front q path)) false ≡ Less
          → query_cmp q (cond (falls q) x y) (cond (falls q) y x) ≡ Less
      front_decides path h =
          let a = cond (falls q) x y in
          let b = cond (falls q) y x in
          let less = by_front path h in
          elim (is_some (named q.sorts q.primary)) as (λ s.
          cond s (sorts_cmp q.sorts a b)
          (ordering_then (sorts_cmp q.sorts a b) (field_cmp q.primary a b)) ≡ Less) [
            | true ↦ less
            | false ↦ ap (λ o. ordering_then o (field_cmp q.primary a b)) less
          ]
