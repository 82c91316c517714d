-- A row enters the matching rows: new goes to its place among the others.
use Rattle.std.proofs.Common.{◌≡◌, ℕ, suc, ◌+◌, ◌-◌, ◌<◌, ◌≤◌, Bool, true, false, List, [], ◌∷◌, ◌++◌, length, drop, min, sym, ap, ◌∙◌, arith}
use Rattle.std.proofs.lemmas.Bool.{leb-true, ltb-true, leb-false, ltb-false}
use Rattle.std.proofs.lemmas.List.{nil_from_length}
use Rattle.rx_query.specs.Lists.{insert_in_order, without_last, first_passes, last_passes}
use Rattle.rx_actions.proofs.Windows.{put, window, length-window, window_short, window_within, window_above, window_rest, without_last-window, put_end}
use Rattle.rx_actions.proofs.Ranks.{rank, rank-le, Stands, not_after, not_before}
use Rattle.rx_actions.proofs.Readings.{Others, first_after, last_before}
use Rattle.rx_actions.proofs.Edits.{last-some, first-some, placed_in_window}

module _ {X : Type 0} (before : X → X → Bool) (mine : X → Bool) (T : List X)
    (others : Others before mine T) (s m : ℕ) (new : X) (stands : Stands before mine new) where
  -- the place of the new row among the others
  abbrev j : ℕ
  j = rank before new T

  -- the old result, and the new one
  abbrev R : List X
  R = window s (suc m) T

  -- the rows after the change
  abbrev R' : List X
  R' = window s (suc m) (put j new T)

  -- how many rows there were
  size : length R ≡ min (suc m) (length T - s)
  size = length-window s (suc m) T

  -- the place is no farther than the end
  low : j ≤ length T
  low = rank-le before new T

  -- the new row stands in the window
  in_window : (q : ℕ) → j ≡ s + q → q ≤ m → R' ≡ put q new (window s m T)
  in_window q e h = window_within s m j q new T e h low

  -- a full window without its last row
  full_front : length R ≡ suc m → without_last R ≡ window s m T
  full_front full = without_last-window s m T (omega (arith, size))

  -- a window that isn't full
  short_front : length R ≤ m → window s m T ≡ R
  short_front short = sym (window_short s m T (omega (arith, size)))

  -- the new row is before the first
  first_yes : first_passes (not_after before mine new) R ≡ true → j ≤ s
  first_yes is =
      let some = first-some (not_after before mine new) R is in
      leb-true j s (sym (first_after before mine T others new stands s m (omega (arith, size)))
      ∙ is)

  -- it isn't
  first_no : 0 < length R → first_passes (not_after before mine new) R ≡ false → s < j
  first_no some is = leb-false j s (sym
      (first_after before mine T others new stands s m (omega (arith, size))) ∙ is)

  -- it is behind the last
  last_yes : last_passes (not_before before mine new) R ≡ true → s + length R ≤ j
  last_yes is =
      let some = last-some (not_before before mine new) R is in
      let e = s + length R - 1 in
      let lt = ltb-true e j (sym (last_before before mine T others new stands s m e (omega arith)
      (omega (arith, size))) ∙ is) in
      omega arith

  -- it isn't
  last_no : 0 < length R → last_passes (not_before before mine new) R ≡ false → j < s + length R
  last_no some is =
      let e = s + length R - 1 in
      let le = ltb-false e j (sym (last_before before mine T others new stands s m e (omega arith)
      (omega (arith, size))) ∙ is) in
      omega arith

  -- there were no rows
  pub enters_empty : length R ≡ 0 → s ≡ 0 → new ∷ R ≡ R'
  enters_empty e at =
      let none = nil_from_length R e in
      let here : j ≡ s + 0 = omega (arith, size, low) in
      let short : length R ≤ m = omega arith in
      sym (in_window 0 here (omega arith) ∙ ap (λ xs. new ∷ xs) (short_front short))

  -- it stands behind a full window
  pub enters_behind : last_passes (not_before before mine new) R ≡ true → length R ≡ suc m → R ≡ R'
  enters_behind last full =
      let far = last_yes last in
      sym (window_above s (suc m) j new T (omega arith) low)

  -- it goes in behind the last
  pub enters_last : last_passes (not_before before mine new) R ≡ true → length R ≤ m
      → R ++ new ∷ [] ≡ R'
  enters_last last short =
      let far = last_yes last in
      let some = last-some (not_before before mine new) R last in
      let here : j ≡ s + length R = omega (arith, size, low) in
      sym (in_window (length R) here short ∙ ap (put (length R) new) (short_front short)
      ∙ put_end (length R) new R (omega arith))

  -- it goes in before the first
  pub enters_first : first_passes (not_after before mine new) R ≡ true → s ≡ 0 → length R ≤ m
      → new ∷ R ≡ R'
  enters_first first at short =
      let near = first_yes first in
      sym (in_window 0 (omega arith) (omega arith) ∙ ap (λ xs. new ∷ xs) (short_front short))

  -- so it does in a full window, whose last row goes out
  pub enters_first_full : first_passes (not_after before mine new) R ≡ true → s ≡ 0
      → length R ≡ suc m → new ∷ without_last R ≡ R'
  enters_first_full first at full =
      let near = first_yes first in
      ap (λ xs. new ∷ xs) (full_front full) ∙ sym (in_window 0 (omega arith) (omega arith))

  -- so it does in a window of one row
  pub enters_first_one : first_passes (not_after before mine new) R ≡ true → s ≡ 0 → m ≡ 0
      → new ∷ drop 1 R ≡ R'
  enters_first_one first at one =
      let near = first_yes first in
      ap (λ xs. new ∷ xs) (window_rest s m T ∙ ap (λ k. window (suc s) k T) one
      ∙ ap (λ k. window s k T) (sym one)) ∙ sym (in_window 0 (omega arith) (omega arith))

  -- it goes in by the order
  pub enters_between : 0 < length R → last_passes (not_before before mine new) R ≡ false
      → first_passes (not_after before mine new) R ≡ false → length R ≤ m
      → insert_in_order before new R ≡ R'
  enters_between some last first short =
      let near = last_no some last in
      let far = first_no some first in
      let here : j ≡ s + (j - s) = omega arith in
      ap (insert_in_order before new) (sym (short_front short))
      ∙ placed_in_window before new s m (j - s) T here (omega arith)
      ∙ sym (in_window (j - s) here (omega arith))

  -- so it does in a full window, whose last row goes out
  pub enters_between_full : 0 < length R → last_passes (not_before before mine new) R ≡ false
      → first_passes (not_after before mine new) R ≡ false → length R ≡ suc m
      → insert_in_order before new (without_last R) ≡ R'
  enters_between_full some last first full =
      let near = last_no some last in
      let far = first_no some first in
      let here : j ≡ s + (j - s) = omega arith in
      ap (insert_in_order before new) (full_front full)
      ∙ placed_in_window before new s m (j - s) T here (omega arith)
      ∙ sym (in_window (j - s) here (omega arith))
