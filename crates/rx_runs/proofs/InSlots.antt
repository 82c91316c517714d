-- Names with their slots, and what is seen of the values in them.
use Rattle.std.proofs.Common.{◌≡◌, ℕ, zero, suc, ◌<◌, ◌≢◌, true, false, cond, List, [], ◌∷◌, ◌++◌, length, set, Some, None, slice_get, refl, sym, ap, ◌∙◌, subst, arith, length-append, add-one}
use Rattle.std.proofs.lemmas.Map.Text.{is_eq-slice_cmp}
use Rattle.std.specs.List.{AllByRecursion}
use Rattle.std.specs.List.Sorted.{IsStrictlySortedBy}
use Rattle.std.specs.Ordering.{is_eq, match_ordering}
use Rattle.std.specs.Str.{bytes_eq}
use Rattle.std.specs.declared.cmp.Ordering.TheVariants.{Less, Equal, Greater}
use Rattle.rx_value.specs.Named.{named, put_in_order}
use Rattle.rx_value.specs.Order.{text_cmp}
use Rattle.rx_value.proofs.Named.{put_in_order-rising}
use Rattle.rx_runs.specs.Rows.{with_value, shown, AllUnder, NoneAt, AreApart, AreSlots}
use Rattle.rx_runs.proofs.Joined.{other, above_lower, named-above}

module _ {X : Type 0} where
  -- ---- one slot

  -- there is a value in a slot below the length
  pub slot_some : (rows : List X) (s : ℕ) → s < length rows → (x : X) × (slice_get rows s ≡ Some x)
  slot_some [] s lt = absurd (omega arith)
  slot_some (r ∷ rows) zero lt = (r, refl)
  slot_some (r ∷ rows) (suc s) lt = slot_some rows s (omega arith)

  -- that was written
  slot_set : (rows : List X) (s : ℕ) (x : X) → s < length rows → slice_get (set rows s x) s ≡ Some x
  slot_set [] s x lt = absurd (omega arith)
  slot_set (r ∷ rows) zero x lt = refl
  slot_set (r ∷ rows) (suc s) x lt = slot_set rows s x (omega arith)

  -- that was not
  slot_other : (rows : List X) (s t : ℕ) (x : X) → t ≢ s → slice_get (set rows s x) t
      ≡ slice_get rows t
  slot_other [] s t x differs = refl
  slot_other (r ∷ rows) zero zero x differs = absurd (differs refl)
  slot_other (r ∷ rows) zero (suc t) x differs = refl
  slot_other (r ∷ rows) (suc s) zero x differs = refl
  slot_other (r ∷ rows) (suc s) (suc t) x differs = slot_other rows s t x
      (λ same. differs (ap suc same))

  -- before a value more
  slot_before : (rows : List X) (s : ℕ) (x : X) → s < length rows
      → slice_get (rows ++ x ∷ []) s ≡ slice_get rows s
  slot_before [] s x lt = absurd (omega arith)
  slot_before (r ∷ rows) zero x lt = refl
  slot_before (r ∷ rows) (suc s) x lt = slot_before rows s x (omega arith)

  -- that value's own
  slot_last : (rows : List X) (x : X) → slice_get (rows ++ x ∷ []) (length rows) ≡ Some x
  slot_last [] x = refl
  slot_last (r ∷ rows) x = slot_last rows x

  pub length_set : (rows : List X) (s : ℕ) (x : X) → length (set rows s x) ≡ length rows
  length_set [] s x = refl
  length_set (r ∷ rows) zero x = refl
  length_set (r ∷ rows) (suc s) x = ap suc (length_set rows s x)

-- the slot of a name is one of them
pub named_slot : (Q : ℕ → Type 0) (es : List (List ℕ × ℕ)) (k : List ℕ) (s : ℕ)
    → AllByRecursion (λ e. Q e.1) es → named es k ≡ Some s → Q s
named_slot Q [] k s all is = absurd (cc)
named_slot Q (e ∷ es) k s all is =
    elim (bytes_eq k e.0) as (λ b. cond b (Some e.1) (named es k) ≡ Some s → Q s) [
      | true ↦ (λ here. let same : e.1 ≡ s = cc in subst Q same all.0)
      | false ↦ (λ there. named_slot Q es k s all.1 there)
    ] is

-- what holds of the slots and of one more holds after that one is put
all_slots_put : (Q : ℕ → Type 0) (es : List (List ℕ × ℕ)) (k : List ℕ) (n : ℕ) → Q n
    → AllByRecursion (λ e. Q e.1) es → AllByRecursion (λ e. Q e.1) (put_in_order es k n)
all_slots_put Q [] k n here all = (here, tt)
all_slots_put Q (e ∷ es) k n here all =
    elim (text_cmp k e.0)
    as (λ o. AllByRecursion (λ e. Q e.1) (match_ordering o ((k, n) ∷ e ∷ es) ((e.0, n) ∷ es)
    (e ∷ put_in_order es k n))) [
      | Less ↦ (here, all)
      | Equal ↦ (here, all.1)
      | Greater ↦ (all.0, all_slots_put Q es k n here all.1)
    ]

-- what follows of each slot
all_slots_follow : (P Q : ℕ → Type 0) (es : List (List ℕ × ℕ)) → ((s : ℕ) → P s → Q s)
    → AllByRecursion (λ e. P e.1) es → AllByRecursion (λ e. Q e.1) es
all_slots_follow P Q [] step all = tt
all_slots_follow P Q (e ∷ es) step all = (step e.1 all.0, all_slots_follow P Q es step all.1)

-- a slot that no name has leaves the slots apart
apart_put : (es : List (List ℕ × ℕ)) (k : List ℕ) (n : ℕ) → AreApart es → NoneAt n es
    → AreApart (put_in_order es k n)
apart_put [] k n apart none = (tt, tt)
apart_put (e ∷ es) k n apart none =
    elim (text_cmp k e.0)
    as (λ o. AreApart (match_ordering o ((k, n) ∷ e ∷ es) ((e.0, n) ∷ es)
    (e ∷ put_in_order es k n))) [
      | Less ↦ (none, apart)
      | Equal ↦ (none.1, apart.1)
      | Greater ↦ (
        all_slots_put (λ t. t ≢ e.1) es k n (λ same. none.0 (sym same)) apart.0,
        apart_put es k n apart.1 none.1,
      )
    ]

-- ---- what is seen

module _ {X : Type 0} where
  -- the first pair
  shown_first : (rows : List X) (e : List ℕ × ℕ) (es : List (List ℕ × ℕ)) (x : X)
      → slice_get rows e.1 ≡ Some x
      → shown rows (e ∷ es) ≡ (e.0, x) ∷ shown rows es
  shown_first rows e es x is = ap (λ o. with_value e.0 o (shown rows es)) is

  -- a write to a slot that no name has
  shown_set : (rows : List X) (s : ℕ) (x : X) (es : List (List ℕ × ℕ)) → NoneAt s es
      → shown (set rows s x) es ≡ shown rows es
  shown_set rows s x [] none = refl
  shown_set rows s x (e ∷ es) none =
      let here = slot_other rows s e.1 x none.0 in
      let rest = shown_set rows s x es none.1 in
      λ j. with_value e.0 (here j) (rest j)

  -- a value more
  shown_more : (rows : List X) (x : X) (es : List (List ℕ × ℕ)) → AllUnder (length rows) es
      → shown (rows ++ x ∷ []) es ≡ shown rows es
  shown_more rows x [] under = refl
  shown_more rows x (e ∷ es) under =
      let here = slot_before rows e.1 x under.0 in
      let rest = shown_more rows x es under.1 in
      λ j. with_value e.0 (here j) (rest j)

  pub length_shown : (rows : List X) (es : List (List ℕ × ℕ)) → AllUnder (length rows) es
      → length (shown rows es) ≡ length es
  length_shown rows [] under = refl
  length_shown rows (e ∷ es) under =
      let v = slot_some rows e.1 under.0 in
      ap length (shown_first rows e es v.0 v.1) ∙ ap suc (length_shown rows es under.1)

  -- a name that has no slot has no value
  pub shown_none : (rows : List X) (es : List (List ℕ × ℕ)) (k : List ℕ) → AllUnder (length rows) es
      → named es k ≡ None → named (shown rows es) k ≡ None
  shown_none rows [] k under is = refl
  shown_none rows (e ∷ es) k under is =
      let v = slot_some rows e.1 under.0 in
      ap (λ l. named l k) (shown_first rows e es v.0 v.1)
      ∙ elim (bytes_eq k e.0) as (λ b. cond b (Some e.1) (named es k) ≡ None
      → cond b (Some v.0) (named (shown rows es) k) ≡ None) [
        | true ↦ (λ here. absurd (cc))
        | false ↦ (λ there. shown_none rows es k under.1 there)
      ] is

  -- one that has a slot has the value in it
  pub shown_some : (rows : List X) (es : List (List ℕ × ℕ)) (k : List ℕ) (s : ℕ) (x : X)
      → AllUnder (length rows) es → named es k ≡ Some s → slice_get rows s ≡ Some x
      → named (shown rows es) k ≡ Some x
  shown_some rows [] k s x under is at = absurd (cc)
  shown_some rows (e ∷ es) k s x under is at =
      let v = slot_some rows e.1 under.0 in
      ap (λ l. named l k) (shown_first rows e es v.0 v.1)
      ∙ elim (bytes_eq k e.0) as (λ b. cond b (Some e.1) (named es k) ≡ Some s
      → cond b (Some v.0) (named (shown rows es) k) ≡ Some x) [
        | true ↦ (λ here.
            let same : e.1 ≡ s = cc in
            sym v.1 ∙ ap (slice_get rows) same ∙ at)
        | false ↦ (λ there. shown_some rows es k s x under.1 there at)
      ] is

  -- a value in the place of another
  pub put_old : (rows : List X) (es : List (List ℕ × ℕ)) (k : List ℕ) (s : ℕ) (x : X)
      → AreSlots rows es → named es k ≡ Some s
      → shown (set rows s x) es ≡ put_in_order (shown rows es) k x
  unfolding IsStrictlySortedBy
  put_old rows [] k s x slots is = absurd (cc)
  put_old rows (e ∷ es) k s x slots is =
      let v = slot_some rows e.1 slots.within.0 in
      let rest : AreSlots rows es =
      record { rising = slots.rising.1; within = slots.within.1; apart = slots.apart.1 } in
      elim (text_cmp k e.0)
      as (λ o. text_cmp k e.0 ≡ o → shown (set rows s x) (e ∷ es)
      ≡ match_ordering o ((k, x) ∷ (e.0, v.0) ∷ shown rows es) ((e.0, x) ∷ shown rows es)
      ((e.0, v.0) ∷ put_in_order (shown rows es) k x)) [
        | Less ↦ (λ less.
            let none = named-above k (e ∷ es) (less, above_lower k e.0 es less slots.rising.0) in
            let found : Some s ≡ None = sym is ∙ none in absurd (cc))
        | Equal ↦ (λ tie.
            let here : bytes_eq k e.0 ≡ true = sym (is_eq-slice_cmp k e.0) ∙ ap is_eq tie in
            let found : Some e.1 ≡ Some s = sym (ap (λ b. cond b (Some e.1) (named es k)) here)
            ∙ is in
            let same : e.1 ≡ s = cc in
            let none : NoneAt s es = subst (λ t. NoneAt t es) same slots.apart.0 in
            let within : s < length rows = subst (λ t. t < length rows) same slots.within.0 in
            shown_first (set rows s x) e es x (ap (slice_get (set rows s x)) same
            ∙ slot_set rows s x within)
            ∙ ap (λ r. (e.0, x) ∷ r) (shown_set rows s x es none))
        | Greater ↦ (λ more.
            let there : named es k ≡ Some s =
            sym (ap (λ b. cond b (Some e.1) (named es k)) (other k e.0 Greater more refl)) ∙ is in
            let differs = named_slot (λ t. t ≢ e.1) es k s slots.apart.0 there in
            shown_first (set rows s x) e es v.0 (slot_other rows s e.1 x
            (λ same. differs (sym same)) ∙ v.1)
            ∙ ap (λ r. (e.0, v.0) ∷ r) (put_old rows es k s x rest there))
      ] refl
      ∙ ap (λ l. put_in_order l k x) (sym (shown_first rows e es v.0 v.1))

  -- a value of a name that had none
  pub put_new : (rows : List X) (es : List (List ℕ × ℕ)) (k : List ℕ) (x : X)
      → AllUnder (length rows) es → named es k ≡ None
      → shown (rows ++ x ∷ []) (put_in_order es k (length rows)) ≡ put_in_order (shown rows es) k x
  put_new rows [] k x under is = shown_first (rows ++ x ∷ []) (k, length rows) [] x
      (slot_last rows x)
  put_new rows (e ∷ es) k x under is =
      let v = slot_some rows e.1 under.0 in
      let all = rows ++ x ∷ [] in
      let n = length rows in
      elim (text_cmp k e.0)
      as (λ o. text_cmp k e.0 ≡ o
      → shown all (match_ordering o ((k, n) ∷ e ∷ es) ((e.0, n) ∷ es) (e ∷ put_in_order es k n))
      ≡ match_ordering o ((k, x) ∷ (e.0, v.0) ∷ shown rows es) ((e.0, x) ∷ shown rows es)
      ((e.0, v.0) ∷ put_in_order (shown rows es) k x)) [
        | Less ↦ (λ less.
            shown_first all (k, n) (e ∷ es) x (slot_last rows x)
            ∙ ap (λ r. (k, x) ∷ r) (shown_more rows x (e ∷ es) under
            ∙ shown_first rows e es v.0 v.1))
        | Equal ↦ (λ tie.
            let here : bytes_eq k e.0 ≡ true = sym (is_eq-slice_cmp k e.0) ∙ ap is_eq tie in
            let found : Some e.1 ≡ None = sym (ap (λ b. cond b (Some e.1) (named es k)) here)
            ∙ is in absurd (cc))
        | Greater ↦ (λ more.
            let there : named es k ≡ None =
            sym (ap (λ b. cond b (Some e.1) (named es k)) (other k e.0 Greater more refl)) ∙ is in
            shown_first all e (put_in_order es k n) v.0 (slot_before rows e.1 x under.0 ∙ v.1)
            ∙ ap (λ r. (e.0, v.0) ∷ r) (put_new rows es k x under.1 there))
      ] refl
      ∙ ap (λ l. put_in_order l k x) (sym (shown_first rows e es v.0 v.1))

  -- ---- slots stay slots

  pub slots_old : (rows : List X) (es : List (List ℕ × ℕ)) (s : ℕ) (x : X) → AreSlots rows es
      → AreSlots (set rows s x) es
  slots_old rows es s x slots = record {
    rising = slots.rising;
    within = subst (λ n. AllUnder n es) (sym (length_set rows s x)) slots.within;
    apart = slots.apart;
  }

  pub slots_new : (rows : List X) (es : List (List ℕ × ℕ)) (k : List ℕ) (x : X) → AreSlots rows es
      → AreSlots (rows ++ x ∷ []) (put_in_order es k (length rows))
  slots_new rows es k x slots =
      let n = length rows in
      let more : length (rows ++ x ∷ []) ≡ suc n = length-append rows (x ∷ []) ∙ add-one n in
      record {
        rising = put_in_order-rising es k n slots.rising;
        within = subst (λ m. AllUnder m (put_in_order es k n)) (sym more)
            (all_slots_put (λ s. s < suc n) es k n (omega arith)
            (all_slots_follow (λ s. s < n) (λ s. s < suc n) es (λ s lt. omega arith) slots.within));
        apart = apart_put es k n slots.apart
            (all_slots_follow (λ s. s < n) (λ s. s ≢ n) es (λ s lt same. omega arith) slots.within);
      }
