-- What the first and the last row of a window, and a row with the key in it, say of places.
use Rattle.std.proofs.Common.{◌≡◌, ℕ, zero, suc, ◌+◌, ◌<◌, ◌≤◌, inl, inr, Bool, true, false, List, length, refl, sym, ap, ◌∙◌, arith, ltb, leb}
use Rattle.std.proofs.lemmas.Bool.{true≢false, leb-true, leb-false, ltb-true, ltb-false, le-leb, lt-leb, lt-ltb, le-ltb, cases_lt}
use Rattle.std.proofs.lemmas.Bool.Decides.{nat_tests}
use Rattle.rx_query.specs.Lists.{first_passes, last_passes}
use Rattle.rx_actions.proofs.Windows.{put, window, passes_at, length-put, length-window, first_of_window, last_of_window, passes_at-put_below, passes_at-put_at, passes_at-put_above}
use Rattle.rx_actions.proofs.Ranks.{rank, Ordered, NoneIs, IsRowOrder, Stands, not_after, not_before, past, ahead}

-- at most, or below the next
leb-suc : (a b : ℕ) → leb a b ≡ ltb a (suc b)
leb-suc a b = grind (arith, nat_tests)

-- rows in order, of which none has the key
pub record Others {X : Type 0} (before : X → X → Bool) (mine : X → Bool) (rows : List X) : Type 0
  where
    pub order : IsRowOrder before
    pub up : Ordered before rows
    pub none : NoneIs mine rows

module _ {X : Type 0} (before : X → X → Bool) (mine : X → Bool) (T : List X)
    (others : Others before mine T) where
  module _ (x : X) (stands : Stands before mine x) where
    -- whether a row at a place has the key or x precedes it
    pub after_at : (k : ℕ) → k < length T
        → passes_at (not_after before mine x) k T ≡ leb (rank before x T) k
    after_at k h =
        elim (cases_lt k (rank before x T)) [
          | inl lt ↦ (ahead before others.order mine x stands k T others.none lt).0
              ∙ sym (lt-leb _ _ lt)
          | inr le ↦ (past before others.order mine x stands k T h others.up others.none le).0
              ∙ sym (le-leb _ _ le)
        ]

    -- whether it has the key or precedes x
    pub before_at : (k : ℕ) → k < length T
        → passes_at (not_before before mine x) k T ≡ ltb k (rank before x T)
    before_at k h =
        elim (cases_lt k (rank before x T)) [
          | inl lt ↦ (ahead before others.order mine x stands k T others.none lt).1
              ∙ sym (lt-ltb _ _ lt)
          | inr le ↦ (past before others.order mine x stands k T h others.up others.none le).1
              ∙ sym (le-ltb _ _ le)
        ]

    -- the window of the others: what x says of its first and last row
    pub first_after : (s m : ℕ) → s < length T
        → first_passes (not_after before mine x) (window s (suc m) T) ≡ leb (rank before x T) s
    first_after s m h = first_of_window (not_after before mine x) s m T ∙ after_at s h

    -- and of its last row
    pub last_before : (s m e : ℕ) → suc e ≡ s + length (window s (suc m) T) → s < length T
        → last_passes (not_before before mine x) (window s (suc m) T) ≡ ltb e (rank before x T)
    last_before s m e at h =
        last_of_window (not_before before mine x) s (suc m) e T
        (omega (arith, length-window s (suc m) T)) h (omega arith)
        ∙ before_at e (omega (arith, length-window s (suc m) T))

    -- the same where old stands at place i among them
    module _ (old : X) (is_mine : mine old ≡ true) (i : ℕ) (inside : i ≤ length T) where
      -- the row of the key passes one test
      after_old : mine old ≡ true → not_after before mine x old ≡ true
      after_old e = rw e refl

      -- and the other
      before_old : mine old ≡ true → not_before before mine x old ≡ true
      before_old e = rw e refl

      -- the first row, old before the window
      pub first_after_below : (s m : ℕ) → i < s → s ≤ length T
          → first_passes (not_after before mine x) (window s (suc m) (put i old T)) ≡ ltb
          (rank before x T) s
      first_after_below zero m h k = absurd (omega arith)
      first_after_below (suc s) m h k =
          first_of_window (not_after before mine x) (suc s) m (put i old T)
          ∙ passes_at-put_above (not_after before mine x) s i old T (omega arith)
          ∙ after_at s (omega arith) ∙ leb-suc (rank before x T) s

      -- the first row, old behind it
      pub first_after_above : (s m : ℕ) → s < i
          → first_passes (not_after before mine x) (window s (suc m) (put i old T)) ≡ leb
          (rank before x T) s
      first_after_above s m h =
          first_of_window (not_after before mine x) s m (put i old T)
          ∙ passes_at-put_below (not_after before mine x) s i old T h inside
          ∙ after_at s (omega arith)

      -- the first row, which is old
      pub first_after_here : (m : ℕ) → first_passes (not_after before mine x)
          (window i (suc m) (put i old T)) ≡ true
      first_after_here m =
          first_of_window (not_after before mine x) i m (put i old T)
          ∙ passes_at-put_at (not_after before mine x) i old T inside ∙ after_old is_mine

      -- the last row stands at place e
      last_at : (s m e : ℕ) → suc e ≡ s + length (window s (suc m) (put i old T)) → s ≤ length T
          → last_passes (not_before before mine x) (window s (suc m) (put i old T)) ≡ passes_at
          (not_before before mine x) e (put i old T)
      last_at s m e at h = last_of_window (not_before before mine x) s (suc m) e (put i old T)
          (omega (arith, length-window s (suc m) (put i old T))) (omega (arith, length-put i old T))
          (omega arith)

      -- the last row, old before it
      pub last_before_below : (s m e : ℕ) → suc e ≡ s + length (window s (suc m) (put i old T))
          → s ≤ length T → i < e → last_passes (not_before before mine x)
          (window s (suc m) (put i old T)) ≡ leb e (rank before x T)
      last_before_below s m zero at h lt = absurd (omega arith)
      last_before_below s m (suc e) at h lt =
          last_at s m (suc e) at h
          ∙ passes_at-put_above (not_before before mine x) e i old T (omega arith)
          ∙ before_at e (omega (arith, length-window s (suc m) (put i old T), length-put i old T))

      -- the last row, old behind it
      pub last_before_above : (s m e : ℕ) → suc e ≡ s + length (window s (suc m) (put i old T))
          → s ≤ length T → e < i → last_passes (not_before before mine x)
          (window s (suc m) (put i old T)) ≡ ltb e (rank before x T)
      last_before_above s m e at h lt =
          last_at s m e at h
          ∙ passes_at-put_below (not_before before mine x) e i old T lt inside
          ∙ before_at e (omega arith)

      -- the last row, which is old
      pub last_before_here : (s m : ℕ) → suc i ≡ s + length (window s (suc m) (put i old T))
          → s ≤ length T → last_passes (not_before before mine x)
          (window s (suc m) (put i old T)) ≡ true
      last_before_here s m at h = last_at s m i at h
          ∙ passes_at-put_at (not_before before mine x) i old T inside ∙ before_old is_mine

      -- what the tests say of the places i of old and j of x, where the window's last row stands at
      -- place e
      abbrev j : ℕ
      j = rank before x T

      -- the window with old in its place
      abbrev shown : ℕ → ℕ → List X
      shown s m = window s (suc m) (put i old T)

      -- the first row has the key or x precedes it
      pub first_yes : (s m : ℕ) → s ≤ length T
          → first_passes (not_after before mine x) (shown s m) ≡ true
          → (i < s → j < s) × (s < i → j ≤ s)
      first_yes s m h is = (
        (λ lt. ltb-true j s (sym (first_after_below s m lt h) ∙ is)),
        (λ lt. leb-true j s (sym (first_after_above s m lt) ∙ is)),
      )

      -- neither
      pub first_no : (s m : ℕ) → s ≤ length T
          → first_passes (not_after before mine x) (shown s m) ≡ false
          → (i < s → s ≤ j) × (s < i → s < j) × (i ≡ s → ⊥)
      first_no s m h is = (
        (λ lt. ltb-false j s (sym (first_after_below s m lt h) ∙ is)),
        (λ lt. leb-false j s (sym (first_after_above s m lt) ∙ is)),
        (λ e. true≢false (sym (first_after_here m)
            ∙ ap (λ k. first_passes (not_after before mine x) (shown k m)) e ∙ is)),
      )

      -- the last row has the key or precedes x
      pub last_yes : (s m e : ℕ) → suc e ≡ s + length (shown s m) → s ≤ length T
          → last_passes (not_before before mine x) (shown s m) ≡ true
          → (i < e → e ≤ j) × (e < i → e < j)
      last_yes s m e at h is = (
        (λ lt. leb-true e j (sym (last_before_below s m e at h lt) ∙ is)),
        (λ lt. ltb-true e j (sym (last_before_above s m e at h lt) ∙ is)),
      )

      -- neither
      pub last_no : (s m e : ℕ) → suc e ≡ s + length (shown s m) → s ≤ length T
          → last_passes (not_before before mine x) (shown s m) ≡ false
          → (i < e → j < e) × (e < i → j ≤ e) × (i ≡ e → ⊥)
      last_no s m e at h is = (
        (λ lt. leb-false e j (sym (last_before_below s m e at h lt) ∙ is)),
        (λ lt. ltb-false e j (sym (last_before_above s m e at h lt) ∙ is)),
        (λ same. true≢false (sym (last_before_here s m (ap suc same ∙ at) h) ∙ is)),
      )
