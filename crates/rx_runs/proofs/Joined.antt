-- Rising pairs in parts: what is found in them, and where one is put.
use Rattle.std.proofs.Common.{◌≡◌, ℕ, zero, suc, ◌+◌, ◌<◌, ◌≤◌, length, arith, true, false, cond, List, [], ◌∷◌, ◌++◌, get_or, set, take, drop, Option, Some, None, is_some, true≢false, refl, sym, ap, ◌∙◌, subst}
use Rattle.std.proofs.lemmas.List.{take-append-drop}
use Rattle.std.proofs.lemmas.Map.Text.{is_eq-slice_cmp}
use Rattle.std.specs.List.{AllByRecursion, insert}
use Rattle.std.specs.List.Sorted.{IsStrictlySortedBy, IsPartitionedBy, IsPartitionPoint}
use Rattle.std.specs.Map.{keys_of}
use Rattle.std.specs.Ordering.{is_eq, is_le, is_lt, match_ordering, ordering_reverse}
use Rattle.std.specs.Str.{bytes_eq}
use Rattle.std.specs.declared.cmp.Ordering.{Ordering}
use Rattle.std.specs.declared.cmp.Ordering.TheVariants.{Less, Equal, Greater}
use Rattle.rx_value.specs.Named.{named, put_in_order, without, AreRising}
use Rattle.rx_value.specs.Order.{text_cmp}
use Rattle.rx_value.specs.Place.{StandsAt, BelongsAt}
use Rattle.rx_value.proofs.Named.{put_in_order-rising}
use Rattle.rx_value.proofs.Ordered.{text_total}
use Rattle.rx_value.proofs.Removed.{without_none}
use Rattle.rx_runs.specs.Run.{AllAbove, AllBelow, from_name, below_name, between}

-- the order, the other way round
pub turned : (a b : List ℕ) (o : Ordering) → text_cmp a b ≡ o → text_cmp b a ≡ ordering_reverse o
turned a b o is = text_total.antisymm b a ∙ ap ordering_reverse is

-- a name that comes before or after another isn't it
pub other : (a b : List ℕ) (o : Ordering) → text_cmp a b ≡ o → is_eq o ≡ false
    → bytes_eq a b ≡ false
other a b o is differs = sym (is_eq-slice_cmp a b) ∙ ap is_eq is ∙ differs

-- a test for below
Less-is : (o : Ordering) → (is_lt o ≡ true → o ≡ Less) × Unit {0}
Less-is Less = (λ _. refl, tt)
Less-is Equal = (λ h. absurd (true≢false (sym h)), tt)
Less-is Greater = (λ h. absurd (true≢false (sym h)), tt)

-- a name that is not below another is at least it
not_lt : (a k : List ℕ) → is_lt (text_cmp a k) ≡ false → is_le (text_cmp k a) ≡ true
not_lt a k differs =
    elim (text_cmp a k) as (λ o. text_cmp a k ≡ o → is_lt o ≡ false → is_le (text_cmp k a) ≡ true) [
      | Less ↦ (λ is h. absurd (true≢false h))
      | Equal ↦ (λ is h. ap is_le (turned a k Equal is))
      | Greater ↦ (λ is h. ap is_le (turned a k Greater is))
    ] refl differs

module _ {X : Type 0} where
  -- above a name is above a lower one
  pub above_lower : (k l : List ℕ) (es : List (List ℕ × X)) → text_cmp k l ≡ Less
      → AllAbove l es → AllAbove k es
  above_lower k l [] is all = tt
  above_lower k l (e ∷ es) is all =
      (text_total.trans k l e.0 is all.0, above_lower k l es is all.1)

  -- below a name is below a greater one
  pub below_greater : (k l : List ℕ) (es : List (List ℕ × X)) → text_cmp l k ≡ Less
      → AllBelow l es → AllBelow k es
  below_greater k l [] is all = tt
  below_greater k l (e ∷ es) is all =
      (text_total.trans e.0 l k all.0 is, below_greater k l es is all.1)

  -- what holds of all names holds of the i-th
  pub all_at : (P : List ℕ → Type 0) (es : List (List ℕ × X)) (i : ℕ) (d : List ℕ × X)
      → i < length es
      → AllByRecursion P (keys_of es) → P (get_or es i d).0
  all_at P [] i d lt all = absurd (omega arith)
  all_at P (e ∷ es) zero d lt all = all.0
  all_at P (e ∷ es) (suc i) d lt all = all_at P es i d (omega arith) all.1

  -- what holds of all of two parts holds of each
  pub all_parts : (P : List ℕ → Type 0) (xs ys : List (List ℕ × X))
      → AllByRecursion P (keys_of (xs ++ ys))
      → AllByRecursion P (keys_of xs) × AllByRecursion P (keys_of ys)
  all_parts P [] ys all = (tt, all)
  all_parts P (x ∷ xs) ys all =
      let rest = all_parts P xs ys all.1 in ((all.0, rest.0), rest.1)

  -- and the other way round
  pub all_joined : (P : List ℕ → Type 0) (xs ys : List (List ℕ × X))
      → AllByRecursion P (keys_of xs) → AllByRecursion P (keys_of ys)
      → AllByRecursion P (keys_of (xs ++ ys))
  all_joined P [] ys first second = second
  all_joined P (x ∷ xs) ys first second = (first.0, all_joined P xs ys first.1 second)

  -- each of two rising parts rises
  pub rising_parts : (xs ys : List (List ℕ × X)) → AreRising (xs ++ ys)
      → AreRising xs × AreRising ys
  unfolding IsStrictlySortedBy
  rising_parts [] ys rising = (tt, rising)
  rising_parts (x ∷ xs) ys rising =
      let rest = rising_parts xs ys rising.1 in
      (((all_parts (λ q. text_cmp x.0 q ≡ Less) xs ys rising.0).0, rest.0), rest.1)

  -- the first part is below the first of the second
  pub below_second : (xs : List (List ℕ × X)) (y : List ℕ × X) (ys : List (List ℕ × X))
      → AreRising (xs ++ y ∷ ys) → AllBelow y.0 xs
  unfolding IsStrictlySortedBy
  below_second [] y ys rising = tt
  below_second (x ∷ xs) y ys rising = (
    (all_parts (λ q. text_cmp x.0 q ≡ Less) xs (y ∷ ys) rising.0).1.0,
    below_second xs y ys
        rising.1,
  )

  -- a name below all is not there
  pub named-above : (k : List ℕ) (es : List (List ℕ × X)) → AllAbove k es → named es k ≡ None
  named-above k [] all = refl
  named-above k (e ∷ es) all =
      ap (λ b. cond b (Some e.1) (named es k)) (other k e.0 Less all.0 refl)
      ∙ named-above k es all.1

  -- and goes to the front
  pub put-above : (k : List ℕ) (x : X) (es : List (List ℕ × X)) → AllAbove k es
      → put_in_order es k x ≡ (k, x) ∷ es
  put-above k x [] all = refl
  put-above k x (e ∷ es) all =
      ap (λ o. match_ordering o ((k, x) ∷ e ∷ es) ((e.0, x) ∷ es) (e ∷ put_in_order es k x)) all.0

  -- a name below the second part is found in the first
  pub named-first : (k : List ℕ) (xs ys : List (List ℕ × X)) → AllAbove k ys
      → named (xs ++ ys) k ≡ named xs k
  named-first k [] ys above = named-above k ys above
  named-first k (x ∷ xs) ys above = ap (cond (bytes_eq k x.0) (Some x.1))
      (named-first k xs ys above)

  -- and put there
  pub put-first : (k : List ℕ) (v : X) (xs ys : List (List ℕ × X)) → AllAbove k ys
      → put_in_order (xs ++ ys) k v ≡ put_in_order xs k v ++ ys
  put-first k v [] ys above = put-above k v ys above
  put-first k v (x ∷ xs) ys above =
      ap (λ r. match_ordering (text_cmp k x.0) ((k, v) ∷ x ∷ (xs ++ ys)) ((x.0, v) ∷ (xs ++ ys))
      (x ∷ r))
      (put-first k v xs ys above)
      ∙ elim (text_cmp k x.0)
      as (λ o. match_ordering o ((k, v) ∷ x ∷ (xs ++ ys)) ((x.0, v) ∷ (xs ++ ys))
      (x ∷ (put_in_order xs k v ++ ys))
      ≡ match_ordering o ((k, v) ∷ x ∷ xs) ((x.0, v) ∷ xs) (x ∷ put_in_order xs k v) ++ ys)
      [ Less ↦ refl | Equal ↦ refl | Greater ↦ refl ]

  -- a name above the first part is found in the second
  pub named-second : (k : List ℕ) (xs ys : List (List ℕ × X)) → AllBelow k xs
      → named (xs ++ ys) k ≡ named ys k
  named-second k [] ys below = refl
  named-second k (x ∷ xs) ys below =
      ap (λ b. cond b (Some x.1) (named (xs ++ ys) k)) (other k x.0 Greater
      (turned x.0 k Less below.0) refl)
      ∙ named-second k xs ys below.1

  -- and put there
  pub put-second : (k : List ℕ) (v : X) (xs ys : List (List ℕ × X)) → AllBelow k xs
      → put_in_order (xs ++ ys) k v ≡ xs ++ put_in_order ys k v
  put-second k v [] ys below = refl
  put-second k v (x ∷ xs) ys below =
      ap (λ o. match_ordering o ((k, v) ∷ x ∷ (xs ++ ys)) ((x.0, v) ∷ (xs ++ ys))
      (x ∷ put_in_order (xs ++ ys) k v))
      (turned x.0 k Less below.0)
      ∙ ap (λ r. x ∷ r) (put-second k v xs ys below.1)

  -- a new name makes one pair more
  pub length_put-new : (es : List (List ℕ × X)) (k : List ℕ) (x : X) → named es k ≡ None
      → length (put_in_order es k x) ≡ length es + 1
  length_put-new [] k x none = refl
  length_put-new (e ∷ es) k x none =
      elim (text_cmp k e.0)
      as (λ o. text_cmp k e.0 ≡ o
      → length (match_ordering o ((k, x) ∷ e ∷ es) ((e.0, x) ∷ es) (e ∷ put_in_order es k x))
      ≡ suc (length es) + 1) [
        | Less ↦ (λ is. omega arith)
        | Equal ↦ (λ is.
            let same : bytes_eq k e.0 ≡ true = sym (is_eq-slice_cmp k e.0) ∙ ap is_eq is in
            let found : Some e.1 ≡ None =
            sym (ap (λ b. cond b (Some e.1) (named es k)) same) ∙ none in cc)
        | Greater ↦ (λ is.
            let rest : named es k ≡ None =
            sym (ap (λ b. cond b (Some e.1) (named es k)) (other k e.0 Greater is refl)) ∙ none in
            let more = length_put-new es k x rest in omega arith)
      ] refl

  -- one that is there makes none
  pub length_put-old : (es : List (List ℕ × X)) (k : List ℕ) (x y : X) → AreRising es
      → named es k ≡ Some y
      → length (put_in_order es k x) ≡ length es
  unfolding IsStrictlySortedBy
  length_put-old [] k x y rising some = absurd (cc)
  length_put-old (e ∷ es) k x y rising some =
      elim (text_cmp k e.0)
      as (λ o. text_cmp k e.0 ≡ o
      → length (match_ordering o ((k, x) ∷ e ∷ es) ((e.0, x) ∷ es) (e ∷ put_in_order es k x))
      ≡ suc (length es)) [
        | Less ↦ (λ is.
            let none : named (e ∷ es) k ≡ None =
            named-above k (e ∷ es) (is, above_lower k e.0 es is rising.0) in
            let found : Some y ≡ None = sym some ∙ none in absurd (cc))
        | Equal ↦ (λ is. refl)
        | Greater ↦ (λ is.
            let rest : named es k ≡ Some y =
            sym (ap (λ b. cond b (Some e.1) (named es k)) (other k e.0 Greater is refl)) ∙ some in
            let same = length_put-old es k x y rising.1 rest in omega arith)
      ] refl

  -- so what comes back tells which
  pub length_added : (es : List (List ℕ × X)) (k : List ℕ) (x : X) (o : Option X) → o ≡ named es k
      → is_some o ≡ false → length (put_in_order es k x) ≡ length es + 1
  length_added es k x None is none = length_put-new es k x (sym is)
  length_added es k x (Some y) is none = absurd (true≢false none)

  pub length_kept : (es : List (List ℕ × X)) (k : List ℕ) (x : X) (o : Option X) → AreRising es
      → o ≡ named es k → is_some o ≡ true → length (put_in_order es k x) ≡ length es
  length_kept es k x None rising is some = absurd (true≢false (sym some))
  length_kept es k x (Some y) rising is some = length_put-old es k x y rising (sym is)

  -- one that is put makes at most one more
  pub put_long : (es : List (List ℕ × X)) (k : List ℕ) (x : X)
      → length (put_in_order es k x) ≤ length es + 1
  put_long [] k x = omega arith
  put_long (e ∷ es) k x =
      let rest = put_long es k x in
      elim (text_cmp k e.0) as (λ o. length
      (match_ordering o ((k, x) ∷ e ∷ es) ((e.0, x) ∷ es) (e ∷ put_in_order es k x))
      ≤ length (e ∷ es) + 1)
      [ Less ↦ omega arith | Equal ↦ omega arith | Greater ↦ omega arith ]

  -- what holds of all names and of one more holds after that one is put
  pub all_put : (P : List ℕ → Type 0) (es : List (List ℕ × X)) (name : List ℕ) (x : X) → P name
      → AllByRecursion P (keys_of es) → AllByRecursion P (keys_of (put_in_order es name x))
  all_put P [] name x here all = (here, tt)
  all_put P (e ∷ es) name x here all =
      elim (text_cmp name e.0)
      as (λ o. AllByRecursion P (keys_of
      (match_ordering o ((name, x) ∷ e ∷ es) ((e.0, x) ∷ es) (e ∷ put_in_order es name x)))) [
        | Less ↦ (here, all)
        | Equal ↦ all
        | Greater ↦ (all.0, all_put P es name x here all.1)
      ]

  -- a write over the value of a name that stands there keeps the names rising
  pub write_rising : (es : List (List ℕ × X)) (name : List ℕ) (x : X) (i : ℕ) (p : List ℕ × X)
      → StandsAt es name i → p ≡ get_or es i p → AreRising es → AreRising (set es i (p.0, x))
  write_rising es name x i p stands read rising =
      subst AreRising (sym (ap (λ q. set es i (q.0, x)) read ∙ stands.puts p x))
      (put_in_order-rising es name x rising)

  -- and so does an insert where the name belongs
  pub insert_rising : (es : List (List ℕ × X)) (name : List ℕ) (x : X) (i : ℕ) → BelongsAt es name i
      → AreRising es → AreRising (insert es i (name, x))
  insert_rising es name x i belongs rising =
      subst AreRising (sym (belongs.puts x)) (put_in_order-rising es name x rising)

  -- a front and a back of rising pairs rise
  pub take_rising : (i : ℕ) (es : List (List ℕ × X)) → AreRising es → AreRising (take i es)
  take_rising i es rising =
      (rising_parts (take i es) (drop i es) (subst AreRising (sym (take-append-drop i es))
      rising)).0

  pub drop_rising : (i : ℕ) (es : List (List ℕ × X)) → AreRising es → AreRising (drop i es)
  drop_rising i es rising =
      (rising_parts (take i es) (drop i es) (subst AreRising (sym (take-append-drop i es))
      rising)).1

  -- ---- without the pair of a name

  -- which isn't there
  pub without_absent : (es : List (List ℕ × X)) (k : List ℕ) (o : Option X) → o ≡ named es k
      → is_some o ≡ false
      → without es k ≡ es
  without_absent es k None is none = without_none k es (sym is)
  without_absent es k (Some y) is none = absurd (true≢false none)

  -- which is below the second part
  pub without-first : (k : List ℕ) (xs ys : List (List ℕ × X)) → AllAbove k ys
      → without (xs ++ ys) k ≡ without xs k ++ ys
  without-first k [] ys above = without_none k ys (named-above k ys above)
  without-first k (x ∷ xs) ys above =
      ap (λ r. cond (bytes_eq k x.0) (xs ++ ys) (x ∷ r)) (without-first k xs ys above)
      ∙ elim (bytes_eq k x.0)
      as (λ b. cond b (xs ++ ys) (x ∷ (without xs k ++ ys)) ≡ cond b xs (x ∷ without xs k) ++ ys)
      [ true ↦ refl | false ↦ refl ]

  -- which is above the first part
  pub without-second : (k : List ℕ) (xs ys : List (List ℕ × X)) → AllBelow k xs
      → without (xs ++ ys) k ≡ xs ++ without ys k
  without-second k [] ys below = refl
  without-second k (x ∷ xs) ys below =
      ap (λ b. cond b (xs ++ ys) (x ∷ without (xs ++ ys) k))
      (other k x.0 Greater (turned x.0 k Less below.0) refl)
      ∙ ap (λ r. x ∷ r) (without-second k xs ys below.1)

  -- they are no more
  pub without_long : (es : List (List ℕ × X)) (k : List ℕ)
      → length (without es k) ≤ length es
  without_long [] k = omega arith
  without_long (e ∷ es) k =
      let rest = without_long es k in
      elim (bytes_eq k e.0) as (λ b. length (cond b es (e ∷ without es k)) ≤ length (e ∷ es))
      [ true ↦ omega arith | false ↦ omega arith ]

  -- they are one less where it is there
  pub length_without : (es : List (List ℕ × X)) (k : List ℕ) (o : Option X) → o ≡ named es k
      → is_some o ≡ true
      → length (without es k) + 1 ≡ length es
  length_without [] k o is some = absurd (true≢false (sym some ∙ ap is_some is))
  length_without (e ∷ es) k o is some =
      elim (bytes_eq k e.0)
      as (λ b. o ≡ cond b (Some e.1) (named es k) → length (cond b es (e ∷ without es k)) + 1
      ≡ suc (length es)) [
        | true ↦ (λ here. omega arith)
        | false ↦ (λ rest. let less = length_without es k o rest some in omega arith)
      ] is

  -- ---- the pairs from a name on

  -- those of two parts
  pub from-parts : (k : List ℕ) (xs ys : List (List ℕ × X))
      → from_name (xs ++ ys) k ≡ from_name xs k ++ from_name ys k
  from-parts k [] ys = refl
  from-parts k (x ∷ xs) ys =
      ap (λ r. cond (is_le (text_cmp k x.0)) (x ∷ r) r) (from-parts k xs ys)
      ∙ elim (is_le (text_cmp k x.0))
      as (λ b. cond b (x ∷ (from_name xs k ++ from_name ys k)) (from_name xs k ++ from_name ys k)
      ≡ cond b (x ∷ from_name xs k) (from_name xs k) ++ from_name ys k)
      [ true ↦ refl | false ↦ refl ]

  -- all that are above it
  pub from-above : (k : List ℕ) (es : List (List ℕ × X)) → AllAbove k es → from_name es k ≡ es
  from-above k [] all = refl
  from-above k (e ∷ es) all =
      ap (λ o. cond (is_le o) (e ∷ from_name es k) (from_name es k)) all.0
      ∙ ap (λ r. e ∷ r) (from-above k es all.1)

  -- none that are below it
  pub from-below : (k : List ℕ) (es : List (List ℕ × X)) → AllBelow k es → from_name es k ≡ []
  from-below k [] all = refl
  from-below k (e ∷ es) all =
      ap (λ o. cond (is_le o) (e ∷ from_name es k) (from_name es k)) (turned e.0 k Less all.0)
      ∙ from-below k es all.1

  -- a name below another has only such names before it
  pub below_first : (k : List ℕ) (es : List (List ℕ × X)) → AreRising es
      → IsPartitionedBy (λ e. is_lt (text_cmp e.0 k)) es
  unfolding IsStrictlySortedBy
  below_first k [] rising i j d le lt is = absurd (omega arith)
  below_first k (e ∷ es) rising zero zero d le lt is = is
  below_first k (e ∷ es) rising zero (suc j) d le lt is =
      let below = all_at (λ q. text_cmp e.0 q ≡ Less) es j d (omega arith) rising.0 in
      ap is_lt (text_total.trans e.0 (get_or es j d).0 k below
      ((Less-is (text_cmp (get_or es j d).0 k)).0 is))
  below_first k (e ∷ es) rising (suc i) zero d le lt is = absurd (omega arith)
  below_first k (e ∷ es) rising (suc i) (suc j) d le lt is =
      below_first k es rising.1 i j d (omega arith) (omega arith) is

  -- those from where the names below it end
  pub from_point : (k : List ℕ) (es : List (List ℕ × X)) (j : ℕ) → j ≤ length es
      → IsPartitionPoint (λ e. is_lt (text_cmp e.0 k) ≡ true) (λ e. is_lt (text_cmp e.0 k) ≡ false)
      es j
      → drop j es ≡ from_name es k
  from_point k [] zero le point = refl
  from_point k [] (suc j) le point = absurd (omega arith)
  from_point k (e ∷ es) zero le point =
      let here : is_le (text_cmp k e.0) ≡ true = not_lt e.0 k
      (point.1 0 e (omega arith) (omega arith)) in
      ap (λ r. e ∷ r) (from_point k es zero (omega arith) (
        (λ i d low high. absurd (omega arith)),
        (λ i d low high.
            point.1 (suc i) d (omega arith) (omega arith)),
      ))
      ∙ sym (ap (λ b. cond b (e ∷ from_name es k) (from_name es k)) here)
  from_point k (e ∷ es) (suc j) le point =
      let below : text_cmp e.0 k ≡ Less = (Less-is (text_cmp e.0 k)).0
      (point.0 0 e (omega arith) (omega arith)) in
      from_point k es j (omega arith) (
        (λ i d low high. point.0 (suc i) d (omega arith) (omega arith)),
        (λ i d low high. point.1 (suc i) d (omega arith) (omega arith)),
      )
      ∙ sym (ap (λ o. cond (is_le o) (e ∷ from_name es k) (from_name es k))
      (turned e.0 k Less below))

  -- they rise
  pub all_from : (P : List ℕ → Type 0) (k : List ℕ) (es : List (List ℕ × X))
      → AllByRecursion P (keys_of es) → AllByRecursion P (keys_of (from_name es k))
  all_from P k [] all = tt
  all_from P k (e ∷ es) all =
      elim (is_le (text_cmp k e.0))
      as (λ b. AllByRecursion P (keys_of (cond b (e ∷ from_name es k) (from_name es k))))
      [ true ↦ (all.0, all_from P k es all.1) | false ↦ all_from P k es all.1 ]

  pub from_rising : (k : List ℕ) (es : List (List ℕ × X)) → AreRising es
      → AreRising (from_name es k)
  unfolding IsStrictlySortedBy
  from_rising k [] rising = tt
  from_rising k (e ∷ es) rising =
      elim (is_le (text_cmp k e.0))
      as (λ b. AreRising (cond b (e ∷ from_name es k) (from_name es k))) [
        | true ↦ (all_from (λ q. text_cmp e.0 q ≡ Less) k es rising.0, from_rising k es rising.1)
        | false ↦ from_rising k es rising.1
      ]

  -- ---- the pairs below a name

  -- those of two parts
  pub below-parts : (k : List ℕ) (xs ys : List (List ℕ × X))
      → below_name (xs ++ ys) k ≡ below_name xs k ++ below_name ys k
  below-parts k [] ys = refl
  below-parts k (x ∷ xs) ys =
      ap (λ r. cond (is_lt (text_cmp x.0 k)) (x ∷ r) r) (below-parts k xs ys)
      ∙ elim (is_lt (text_cmp x.0 k))
      as (λ b. cond b (x ∷ (below_name xs k ++ below_name ys k))
      (below_name xs k ++ below_name ys k)
      ≡ cond b (x ∷ below_name xs k) (below_name xs k) ++ below_name ys k)
      [ true ↦ refl | false ↦ refl ]

  -- all that are below it
  pub below-below : (k : List ℕ) (es : List (List ℕ × X)) → AllBelow k es → below_name es k ≡ es
  below-below k [] all = refl
  below-below k (e ∷ es) all =
      ap (λ o. cond (is_lt o) (e ∷ below_name es k) (below_name es k)) all.0
      ∙ ap (λ r. e ∷ r) (below-below k es all.1)

  -- none that are above it
  pub below-above : (k : List ℕ) (es : List (List ℕ × X)) → AllAbove k es → below_name es k ≡ []
  below-above k [] all = refl
  below-above k (e ∷ es) all =
      ap (λ o. cond (is_lt o) (e ∷ below_name es k) (below_name es k)) (turned k e.0 Less all.0)
      ∙ below-above k es all.1

  -- those up to where the names below it end
  pub below_point : (k : List ℕ) (es : List (List ℕ × X)) (j : ℕ) → j ≤ length es
      → IsPartitionPoint (λ e. is_lt (text_cmp e.0 k) ≡ true) (λ e. is_lt (text_cmp e.0 k) ≡ false)
      es j
      → take j es ≡ below_name es k
  below_point k [] zero le point = refl
  below_point k [] (suc j) le point = absurd (omega arith)
  below_point k (e ∷ es) zero le point =
      below_point k es zero (omega arith) (
        (λ i d low high. absurd (omega arith)),
        (λ i d low high. point.1 (suc i) d (omega arith) (omega arith)),
      )
      ∙ sym (ap (λ b. cond b (e ∷ below_name es k) (below_name es k))
      (point.1 0 e (omega arith) (omega arith)))
  below_point k (e ∷ es) (suc j) le point =
      ap (λ r. e ∷ r) (below_point k es j (omega arith) (
        (λ i d low high. point.0 (suc i) d (omega arith) (omega arith)),
        (λ i d low high. point.1 (suc i) d (omega arith) (omega arith)),
      ))
      ∙ sym (ap (λ b. cond b (e ∷ below_name es k) (below_name es k))
      (point.0 0 e (omega arith) (omega arith)))

  -- ---- the pairs between two names

  -- they are at most all
  length_from : (k : List ℕ) (es : List (List ℕ × X)) → length (from_name es k) ≤ length es
  length_from k [] = omega arith
  length_from k (e ∷ es) =
      let rest = length_from k es in
      elim (is_le (text_cmp k e.0))
      as (λ b. length (cond b (e ∷ from_name es k) (from_name es k)) ≤ suc (length es))
      [ true ↦ omega arith | false ↦ omega arith ]

  length_below : (k : List ℕ) (es : List (List ℕ × X)) → length (below_name es k) ≤ length es
  length_below k [] = omega arith
  length_below k (e ∷ es) =
      let rest = length_below k es in
      elim (is_lt (text_cmp e.0 k))
      as (λ b. length (cond b (e ∷ below_name es k) (below_name es k)) ≤ suc (length es))
      [ true ↦ omega arith | false ↦ omega arith ]

  pub length_between : (low high : List ℕ) (es : List (List ℕ × X))
      → length (between es low high) ≤ length es
  length_between low high es =
      let first = length_from low es in
      let second = length_below high (from_name es low) in omega arith

-- one pair alone rises
pub one_rising : {X : Type 0} (e : List ℕ × X) → AreRising (e ∷ [])
unfolding IsStrictlySortedBy
one_rising e = (tt, tt)

-- so do none
pub none_rising : (X : Type 0) → AreRising {X = X} []
unfolding IsStrictlySortedBy
none_rising X = tt
