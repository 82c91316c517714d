-- Where the bounds say all that the selector does, what stands between them is due.
use Rattle.std.proofs.Common.{◌≡◌, inl, inr, ◌⊎◌, ℕ, ◌≤◌, Bool, true, false, not, cond, ◌&&◌, List, [], ◌∷◌, map, Option, Some, None, is_some, Ordering, Less, Equal, Greater, refl, sym, ap, ◌∙◌, subst, arith}
use Rattle.std.proofs.lemmas.Bool.{false≢true, and_parts, and_from}
use Rattle.std.proofs.lemmas.Slice.Eq.{bytes_eq-Decides}
use Rattle.std.specs.Cmp.{Equal-is}
use Rattle.std.specs.Option.{option_or}
use Rattle.std.specs.Ordering.{bool_cmp, ordering_then, ordering_reverse, is_eq, is_gt, is_ge, is_lt, is_le}
use Rattle.std.specs.Str.{bytes_eq}
use Rattle.rx_value.proofs.Ordered.{value_total, value_ties, order_ties}
use Rattle.rx_value.specs.Fields.{Pairs}
use Rattle.rx_value.specs.Named.{named}
use Rattle.rx_value.specs.Order.{order_of, value_cmp}
use Rattle.rx_value.specs.declared.value.Value.{Value}
use Rattle.rx_value.specs.declared.value.Value.TheVariants.{Flag, Int, Text}
use Rattle.rx_document.specs.declared.stored.Stored.{Stored}
use Rattle.rx_selector.specs.Holding.{same_kind, stands, compares, tests_hold, all_hold}
use Rattle.rx_selector.specs.Tree.{compared, differs, one_of, none_of, exists, remainder, negated, Tests, no_tests, test, all, any, nor, on_field, Clauses, no_clauses, clause}
use Rattle.rx_selector.specs.declared.tree.Compare.{Compare}
use Rattle.rx_selector.specs.declared.tree.Compare.TheVariants.{Eq, Gt, Gte, Lt, Lte}
use Rattle.rx_query.specs.QuerySpec.{QuerySpec}
use Rattle.rx_query.specs.Result.{is_due}
use Rattle.rx_index.specs.Index.{is_between}
use Rattle.rx_index.specs.Position.{position_with, values_cmp, key_of}
use Rattle.rx_planner.specs.Closed.{kind_end, closed_by, closed_end, closed_at, closed_of}
use Rattle.rx_planner.specs.Exact.{is_value, has_kind, have_kind, fixes, bounds, is_told, are_told, all_told, is_exact}
use Rattle.rx_planner.specs.Plan.{Names, path_of, operand, end_by, fixed_or}
use Rattle.rx_planner.proofs.Enclosed.{meets, between_parts}
use Rattle.rx_planner.proofs.Selected.{past, key_with}

-- ---- kinds in their order

abbrev rank : Value → ℕ
rank (Flag b) = 0
rank (Int n) = 1
rank (Text t) = 2

-- there is a value, of this kind or a later one
abbrev AtLeast : Value → Option Value → Type 0
AtLeast v None = ⊥
AtLeast v (Some w) = rank v ≤ rank w

same_rank : (w v : Value) → same_kind w v ≡ true → rank w ≡ rank v
same_rank (Flag a) (Flag b) h = refl
same_rank (Int a) (Int b) h = refl
same_rank (Text a) (Text b) h = refl
same_rank _ _ h = cc

rank_same : (w v : Value) → rank v ≤ rank w → rank w ≤ rank v → same_kind w v ≡ true
rank_same (Flag a) (Flag b) h k = refl
rank_same (Int a) (Int b) h k = refl
rank_same (Text a) (Text b) h k = refl
rank_same (Flag a) (Int b) h k = absurd (omega (arith, h))
rank_same (Flag a) (Text b) h k = absurd (omega (arith, h))
rank_same (Int a) (Flag b) h k = absurd (omega (arith, k))
rank_same (Int a) (Text b) h k = absurd (omega (arith, h))
rank_same (Text a) (Flag b) h k = absurd (omega (arith, k))
rank_same (Text a) (Int b) h k = absurd (omega (arith, k))

rank_up : (w v : Value) → is_ge (value_cmp w v) ≡ true → rank v ≤ rank w
rank_up (Flag a) (Flag b) h = omega arith
rank_up (Int a) (Int b) h = omega arith
rank_up (Text a) (Text b) h = omega arith
rank_up (Int a) (Flag b) h = omega arith
rank_up (Text a) (Flag b) h = omega arith
rank_up (Text a) (Int b) h = omega arith
rank_up _ _ h = cc

rank_down : (w v : Value) → is_le (value_cmp w v) ≡ true → rank w ≤ rank v
rank_down (Flag a) (Flag b) h = omega arith
rank_down (Int a) (Int b) h = omega arith
rank_down (Text a) (Text b) h = omega arith
rank_down (Flag a) (Int b) h = omega arith
rank_down (Flag a) (Text b) h = omega arith
rank_down (Int a) (Text b) h = omega arith
rank_down _ _ h = cc

tied_kind : (w v : Value) → is_eq (value_cmp w v) ≡ true → same_kind w v ≡ true
tied_kind (Flag a) (Flag b) h = refl
tied_kind (Int a) (Int b) h = refl
tied_kind (Text a) (Text b) h = refl
tied_kind _ _ h = cc

gt_ge : (o : Ordering) → is_gt o ≡ true → is_ge o ≡ true
gt_ge Less h = cc
gt_ge Equal h = refl
gt_ge Greater h = refl

lt_le : (o : Ordering) → is_lt o ≡ true → is_le o ≡ true
lt_le Less h = refl
lt_le Equal h = refl
lt_le Greater h = cc

-- ---- a bound of one value, and what stands behind it or before it

over : (o r : Ordering) → is_le (ordering_then (ordering_reverse o) r) ≡ true → is_le r ≡ false
    → is_gt o ≡ true
over Less r h k = cc
over Equal r h k = absurd (false≢true (sym k ∙ h))
over Greater r h k = refl

over_or_at : (o r : Ordering) → is_le (ordering_then (ordering_reverse o) r) ≡ true → is_ge o ≡ true
over_or_at Less r h = cc
over_or_at Equal r h = refl
over_or_at Greater r h = refl

under : (o r : Ordering) → is_le (ordering_then (ordering_reverse o) r) ≡ false → is_le r ≡ true
    → is_lt o ≡ true
under Less r h k = refl
under Equal r h k = absurd (false≢true (sym h ∙ k))
under Greater r h k = cc

under_or_at : (o r : Ordering) → is_le (ordering_then (ordering_reverse o) r) ≡ false
    → is_le o ≡ true
under_or_at Less r h = refl
under_or_at Equal r h = refl
under_or_at Greater r h = cc

module _ (e w : Value) (xs : List (Option Value)) where
  -- by the order from the other side
  turned : (b c : Bool) → meets (position_with (Some e ∷ []) b) (Some w ∷ xs) false ≡ c
      → is_le (ordering_then (ordering_reverse (value_cmp w e)) (values_cmp [] b xs false)) ≡ c
  turned b c h =
      ap (λ o. is_le (ordering_then o (values_cmp [] b xs false))) (sym (value_total.antisymm e w))
      ∙ h

  is_above : meets (position_with (Some e ∷ []) true) (Some w ∷ xs) false ≡ true
      → is_gt (value_cmp w e) ≡ true
  is_above h =
      over (value_cmp w e) (values_cmp [] true xs false) (turned true true h) (past true xs)

  is_from : meets (position_with (Some e ∷ []) false) (Some w ∷ xs) false ≡ true
      → is_ge (value_cmp w e) ≡ true
  is_from h = over_or_at (value_cmp w e) (values_cmp [] false xs false) (turned false true h)

  is_below : meets (position_with (Some e ∷ []) false) (Some w ∷ xs) false ≡ false
      → is_lt (value_cmp w e) ≡ true
  is_below h =
      under (value_cmp w e) (values_cmp [] false xs false) (turned false false h) (past false xs)

  is_to : meets (position_with (Some e ∷ []) true) (Some w ∷ xs) false ≡ false
      → is_le (value_cmp w e) ≡ true
  is_to h = under_or_at (value_cmp w e) (values_cmp [] true xs false) (turned true false h)

-- ---- the next field is of the kind of its bounds

above_flags : (w : Value) → is_gt (value_cmp w (Flag true)) ≡ true → 1 ≤ rank w
above_flags (Flag true) h = cc
above_flags (Flag false) h = cc
above_flags (Int n) h = omega arith
above_flags (Text t) h = omega arith

below_texts : (w : Value) → is_lt (value_cmp w (Text [])) ≡ true → rank w ≤ 1
below_texts (Flag b) h = omega arith
below_texts (Int n) h = omega arith
below_texts (Text []) h = cc
below_texts (Text (c ∷ cs)) h = cc

kind_from : (e w : Value) (xs : List (Option Value))
    → meets (kind_end false e) (Some w ∷ xs) false ≡ true → rank e ≤ rank w
kind_from (Flag b) w xs h = omega arith
kind_from (Int n) w xs h = above_flags w (is_above (Flag true) w xs h)
kind_from (Text t) w xs h = rank_up w (Text []) (is_from (Text []) w xs h)

kind_to : (e w : Value) (xs : List (Option Value))
    → meets (kind_end true e) (Some w ∷ xs) false ≡ false → rank w ≤ rank e
kind_to (Flag b) w xs h = rank_down w (Flag true) (is_to (Flag true) w xs h)
kind_to (Int n) w xs h = below_texts w (is_below (Text []) w xs h)
kind_to (Text t) (Flag b) xs h = omega arith
kind_to (Text t) (Int n) xs h = omega arith
kind_to (Text t) (Text s) xs h = omega arith

-- a missing value stands before them
not_missing : (e : Value) (xs : List (Option Value)) → meets (kind_end false e) (None ∷ xs) false
    ≡ true
    → ⊥
not_missing (Flag b) xs h = false≢true h
not_missing (Int n) xs h = false≢true h
not_missing (Text t) xs h = false≢true h

-- some bound there is, and all are of the value's kind
low_kind : (o l t x : Option Value) (v : Value) (xs : List (Option Value))
    → is_some (option_or (option_or o l) t) ≡ true → has_kind o v ≡ true → has_kind l v ≡ true
    → has_kind t v ≡ true
    → meets (closed_by false (option_or o l) t (end_by false o l)) (x ∷ xs) false ≡ true
    → AtLeast v x
low_kind (Some e) l t None v xs is ho hl ht h = absurd (false≢true h)
low_kind (Some e) l t (Some w) v xs is ho hl ht h =
    subst (λ n. n ≤ rank w) (same_rank e v ho)
    (rank_up w e (gt_ge (value_cmp w e) (is_above e w xs h)))
low_kind None (Some e) t None v xs is ho hl ht h = absurd (false≢true h)
low_kind None (Some e) t (Some w) v xs is ho hl ht h =
    subst (λ n. n ≤ rank w) (same_rank e v hl) (rank_up w e (is_from e w xs h))
low_kind None None (Some e) None v xs is ho hl ht h = absurd (not_missing e xs h)
low_kind None None (Some e) (Some w) v xs is ho hl ht h =
    subst (λ n. n ≤ rank w) (same_rank e v ht) (kind_from e w xs h)
low_kind None None None x v xs is ho hl ht h = absurd (false≢true is)

high_kind : (o l t : Option Value) (w v : Value) (xs : List (Option Value))
    → is_some (option_or (option_or o l) t) ≡ true → has_kind o v ≡ true → has_kind l v ≡ true
    → has_kind t v ≡ true
    → meets (closed_by true (option_or o l) t (end_by true o l)) (Some w ∷ xs) false ≡ false
    → rank w ≤ rank v
high_kind (Some e) l t w v xs is ho hl ht h =
    subst (λ n. rank w ≤ n) (same_rank e v ho)
    (rank_down w e (lt_le (value_cmp w e) (is_below e w xs h)))
high_kind None (Some e) t w v xs is ho hl ht h =
    subst (λ n. rank w ≤ n) (same_rank e v hl) (rank_down w e (is_to e w xs h))
high_kind None None (Some e) w v xs is ho hl ht h =
    subst (λ n. rank w ≤ n) (same_rank e v ht) (kind_to e w xs h)
high_kind None None None w v xs is ho hl ht h = absurd (false≢true is)

kind_or : (o l : Option Value) (v : Value) → has_kind o v ≡ true → has_kind l v ≡ true
    → has_kind (option_or o l) v ≡ true
kind_or (Some e) l v h k = h
kind_or None l v h k = k

some_first : (o l : Option Value) (v : Value) → is_value o v ≡ true → is_some (option_or o l) ≡ true
some_first (Some e) l v h = refl
some_first None l v h = absurd (false≢true h)

some_second : (o l : Option Value) (v : Value) → is_value l v ≡ true → is_some (option_or o l)
    ≡ true
some_second (Some e) l v h = refl
some_second None l v h =
    elim l as (λ l. is_value l v ≡ true → is_some l ≡ true)
    [ None ↦ (λ k. absurd (false≢true k)) | Some e ↦ (λ k. refl) ] h

some_front : (o l : Option Value) → is_some o ≡ true → is_some (option_or o l) ≡ true
some_front (Some e) l h = refl
some_front None l h = absurd (false≢true h)

some_back : (o l : Option Value) → is_some l ≡ true → is_some (option_or o l) ≡ true
some_back (Some e) l h = refl
some_back None l h = h

-- ---- and stands to each as its operator says

is_that : (e v : Value) → is_eq (value_cmp e v) ≡ true → e ≡ v
is_that e v h = value_ties e v ((Equal-is (value_cmp e v)).0 h)

module _ (w v : Value) (xs : List (Option Value)) where
  above_it : (o l t : Option Value)
      → meets (closed_by false (option_or o l) t (end_by false o l)) (Some w ∷ xs) false ≡ true
      → is_value o v ≡ true → is_gt (value_cmp w v) ≡ true
  above_it None l t h is = absurd (false≢true is)
  above_it (Some e) l t h is =
      subst (λ z. is_gt (value_cmp w z) ≡ true) (is_that e v is) (is_above e w xs h)

  from_it : (o l t : Option Value)
      → meets (closed_by false (option_or o l) t (end_by false o l)) (Some w ∷ xs) false ≡ true
      → (not (is_some o) && is_value l v) ≡ true → is_ge (value_cmp w v) ≡ true
  from_it (Some e) l t h is = absurd (false≢true is)
  from_it None None t h is = absurd (false≢true is)
  from_it None (Some e) t h is =
      subst (λ z. is_ge (value_cmp w z) ≡ true) (is_that e v is) (is_from e w xs h)

  below_it : (o l t : Option Value)
      → meets (closed_by true (option_or o l) t (end_by true o l)) (Some w ∷ xs) false ≡ false
      → is_value o v ≡ true → is_lt (value_cmp w v) ≡ true
  below_it None l t h is = absurd (false≢true is)
  below_it (Some e) l t h is =
      subst (λ z. is_lt (value_cmp w z) ≡ true) (is_that e v is) (is_below e w xs h)

  to_it : (o l t : Option Value)
      → meets (closed_by true (option_or o l) t (end_by true o l)) (Some w ∷ xs) false ≡ false
      → (not (is_some o) && is_value l v) ≡ true → is_le (value_cmp w v) ≡ true
  to_it (Some e) l t h is = absurd (false≢true is)
  to_it None None t h is = absurd (false≢true is)
  to_it None (Some e) t h is =
      subst (λ z. is_le (value_cmp w z) ≡ true) (is_that e v is) (is_to e w xs h)

module _ (q : QuerySpec) (f : List ℕ) (v : Value) (xs : List (Option Value)) where
  abbrev lows : Option Value
  lows = option_or (operand q f Gt) (operand q f Gte)

  abbrev highs : Option Value
  highs = option_or (operand q f Lt) (operand q f Lte)

  one_side : (which : Compare) → bounds q f which v ≡ true
      → (is_some lows ≡ true) ⊎ (is_some highs ≡ true)
  one_side Eq h = absurd (false≢true h)
  one_side Gt h = inl (some_first (operand q f Gt) (operand q f Gte) v h)
  one_side Gte h =
      inl (some_second (operand q f Gt) (operand q f Gte) v
      (and_parts (not (is_some (operand q f Gt))) (is_value (operand q f Gte) v) h).1)
  one_side Lt h = inr (some_first (operand q f Lt) (operand q f Lte) v h)
  one_side Lte h =
      inr (some_second (operand q f Lt) (operand q f Lte) v
      (and_parts (not (is_some (operand q f Lt))) (is_value (operand q f Lte) v) h).1)

  stands_so : (which : Compare) (w : Value)
      → meets (closed_end q false f) (Some w ∷ xs) false ≡ true
      → meets (closed_end q true f) (Some w ∷ xs) false ≡ false → bounds q f which v ≡ true
      → stands which (value_cmp w v) ≡ true
  stands_so Eq w low high h = absurd (false≢true h)
  stands_so Gt w low high h = above_it w v xs (operand q f Gt) (operand q f Gte) highs low h
  stands_so Gte w low high h = from_it w v xs (operand q f Gt) (operand q f Gte) highs low h
  stands_so Lt w low high h = below_it w v xs (operand q f Lt) (operand q f Lte) lows high h
  stands_so Lte w low high h = to_it w v xs (operand q f Lt) (operand q f Lte) lows high h

  module _ (kinds : have_kind q f v ≡ true) where
    abbrev of : Compare → Bool
    of which = has_kind (operand q f which) v

    three : (of Gt && of Gte && of Lt) ≡ true
    three = (and_parts (of Gt && of Gte && of Lt) (of Lte) kinds).0

    of_lte : of Lte ≡ true
    of_lte = (and_parts (of Gt && of Gte && of Lt) (of Lte) kinds).1

    two : (of Gt && of Gte) ≡ true
    two = (and_parts (of Gt && of Gte) (of Lt) three).0

    of_lt : of Lt ≡ true
    of_lt = (and_parts (of Gt && of Gte) (of Lt) three).1

    of_gt : of Gt ≡ true
    of_gt = (and_parts (of Gt) (of Gte) two).0

    of_gte : of Gte ≡ true
    of_gte = (and_parts (of Gt) (of Gte) two).1

    at_least : (which : Compare) (x : Option Value) → bounds q f which v ≡ true
        → meets (closed_end q false f) (x ∷ xs) false ≡ true → AtLeast v x
    at_least which x h =
        low_kind (operand q f Gt) (operand q f Gte) highs x v xs
        (elim (one_side which h)
        [ inl a ↦ some_front lows highs a | inr b ↦ some_back lows highs b ])
        of_gt of_gte (kind_or (operand q f Lt) (operand q f Lte) v of_lt of_lte)

    at_most : (which : Compare) (w : Value) → bounds q f which v ≡ true
        → meets (closed_end q true f) (Some w ∷ xs) false ≡ false → rank w ≤ rank v
    at_most which w h =
        high_kind (operand q f Lt) (operand q f Lte) lows w v xs
        (elim (one_side which h)
        [ inl a ↦ some_back highs lows a | inr b ↦ some_front highs lows b ])
        of_lt of_lte (kind_or (operand q f Gt) (operand q f Gte) v of_gt of_gte)

    -- the next field compares with each of its bounds as the selector asks
    next_holds : (which : Compare) (x : Option Value)
        → meets (closed_end q false f) (x ∷ xs) false ≡ true
        → meets (closed_end q true f) (x ∷ xs) false ≡ false → bounds q f which v ≡ true
        → compares which x v ≡ true
    next_holds which None low high h = absurd (at_least which None h low)
    next_holds which (Some w) low high h =
        and_from (same_kind w v) (stands which (value_cmp w v))
        (rank_same w v (at_least which (Some w) h low) (at_most which w h high))
        (stands_so which w low high h)

-- ---- the fields of a path

-- what stands between two bounds that begin with one value begins with it
level : (o r s : Ordering) → is_le (ordering_then o r) ≡ true → is_le (ordering_then o s) ≡ false
    → (o ≡ Equal) × (is_le r ≡ true) × (is_le s ≡ false)
level Less r s h k = cc
level Equal r s h k = (refl, h, k)
level Greater r s h k = cc

-- a fixed field has the value that the selector asks for
fixed_holds : (q : QuerySpec) (f : List ℕ) (e v : Value) (which : Compare) (x : Option Value)
    → operand q f Eq ≡ Some e → x ≡ Some e → fixes q f which v ≡ true → compares which x v ≡ true
fixed_holds q f e v Eq x is at h =
    let same : is_eq (value_cmp e v) ≡ true = ap (λ o. is_value o v) (sym is) ∙ h in
    ap (λ z. compares Eq z v) at
    ∙ and_from (same_kind e v) (is_eq (value_cmp e v)) (tied_kind e v same) same
fixed_holds q f e v Gt x is at h = absurd (false≢true h)
fixed_holds q f e v Gte x is at h = absurd (false≢true h)
fixed_holds q f e v Lt x is at h = absurd (false≢true h)
fixed_holds q f e v Lte x is at h = absurd (false≢true h)

module _ (q : QuerySpec) (fields : Pairs) (name : List ℕ) (which : Compare) (v : Value) where
  told_holds : (fs : Names)
      → meets (closed_at q false fs) (map (λ f. named fields f) fs) false ≡ true
      → meets (closed_at q true fs) (map (λ f. named fields f) fs) false ≡ false
      → is_told q fs name which v ≡ true → compares which (named fields name) v ≡ true
  told_holds [] low high told = absurd (false≢true told)
  told_holds (f ∷ fs) low high told =
      let xs = map (λ g. named fields g) fs in
      (elim (operand q f Eq) as (λ o. operand q f Eq ≡ o
      → meets (fixed_or o (closed_at q false fs) (closed_end q false f))
      (named fields f ∷ xs) false ≡ true
      → meets (fixed_or o (closed_at q true fs) (closed_end q true f)) (named fields f ∷ xs) false
      ≡ false
      → cond (is_some o) (cond (bytes_eq f name) (fixes q f which v) (is_told q fs name which v))
      (bytes_eq f name && bounds q f which v && have_kind q f v) ≡ true
      → compares which (named fields name) v ≡ true) [
        | Some e ↦ (λ is l h t.
            let r = level (order_of (Some e) (named fields f))
            (values_cmp (closed_at q false fs).values (closed_at q false fs).after xs false)
            (values_cmp (closed_at q true fs).values (closed_at q true fs).after xs false) l h in
            let at : named fields f ≡ Some e = sym ((order_ties (Some e) (named fields f)).0 r.0) in
            (elim (bytes_eq f name) as (λ b. bytes_eq f name ≡ b
            → cond b (fixes q f which v) (is_told q fs name which v) ≡ true
            → compares which (named fields name) v ≡ true) [
              | true ↦ (λ same k.
                  subst (λ n. compares which (named fields n) v ≡ true)
                  ((bytes_eq-Decides f name).0 same)
                  (fixed_holds q f e v which (named fields f) is at k))
              | false ↦ (λ same k. told_holds fs r.1 r.2 k)
            ]) refl t)
        | None ↦ (λ is l h t.
            let first = and_parts (bytes_eq f name && bounds q f which v) (have_kind q f v) t in
            let second = and_parts (bytes_eq f name) (bounds q f which v) first.0 in
            subst (λ n. compares which (named fields n) v ≡ true)
            ((bytes_eq-Decides f name).0 second.0)
            (next_holds q f v xs first.1 which (named fields f) l h second.1))
      ]) refl low high told

module _ (q : QuerySpec) (fields : Pairs) (path : Names)
    (low : meets (closed_at q false path) (map (λ f. named fields f) path) false ≡ true)
    (high : meets (closed_at q true path) (map (λ f. named fields f) path) false ≡ false) where
  tests_told : (name : List ℕ) (ts : Tests) → are_told q path name ts ≡ true
      → tests_hold ts (named fields name) ≡ true
  tests_told name no_tests h = refl
  tests_told name (test (compared which v) ts) h =
      let parts = and_parts (is_told q path name which v) (are_told q path name ts) h in
      and_from (compares which (named fields name) v) (tests_hold ts (named fields name))
      (told_holds q fields name which v path low high parts.0) (tests_told name ts parts.1)
  tests_told name (test (differs v) ts) h = absurd (false≢true h)
  tests_told name (test (one_of vs) ts) h = absurd (false≢true h)
  tests_told name (test (none_of vs) ts) h = absurd (false≢true h)
  tests_told name (test (exists b) ts) h = absurd (false≢true h)
  tests_told name (test (remainder by left) ts) h = absurd (false≢true h)
  tests_told name (test (negated us) ts) h = absurd (false≢true h)

  clauses_told : (cs : Clauses) → all_told q path cs ≡ true → all_hold cs fields ≡ true
  clauses_told no_clauses h = refl
  clauses_told (clause (on_field name ts) cs) h =
      let parts = and_parts (are_told q path name ts) (all_told q path cs) h in
      and_from (tests_hold ts (named fields name)) (all_hold cs fields) (tests_told name ts parts.0)
      (clauses_told cs parts.1)
  clauses_told (clause (all ds) cs) h = absurd (false≢true h)
  clauses_told (clause (any ds) cs) h = absurd (false≢true h)
  clauses_told (clause (nor ds) cs) h = absurd (false≢true h)

-- ---- documents

kept : (b : Bool) → bool_cmp false b ≡ Equal → not b ≡ true
kept false h = refl
kept true h = cc

-- a document whose key stands between the closed bounds is due, where they say all
pub closed_due : (q : QuerySpec) (fields : Names) (d : Stored) → is_exact q (path_of q fields)
    ≡ true
    → named d.state.fields q.primary ≡ Some (Text d.state.key)
    → is_between (closed_of q false (path_of q fields)) (closed_of q true (path_of q fields))
    (key_of fields d) ≡ true
    → is_due q d ≡ true
closed_due q fields d exact carried h =
    let path = path_of q fields in
    let xs = map (λ f. named d.state.fields f) path in
    let k = position_with (Some (Flag d.state.deleted) ∷ xs) false in
    let parts = between_parts (closed_of q false path) (closed_of q true path) k
    (ap (is_between (closed_of q false path) (closed_of q true path))
    (sym (key_with q fields d carried)) ∙ h) in
    let r = level (bool_cmp false d.state.deleted)
    (values_cmp (closed_at q false path).values (closed_at q false path).after xs false)
    (values_cmp (closed_at q true path).values (closed_at q true path).after xs false)
    parts.0 parts.1 in
    and_from (not d.state.deleted) (all_hold q.clauses d.state.fields) (kept d.state.deleted r.0)
    (clauses_told q d.state.fields path r.1 r.2 q.clauses exact)
