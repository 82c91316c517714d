-- A matching row changes and still matches.
use Rattle.std.proofs.Common.{◌≡◌, ℕ, suc, ◌+◌, ◌-◌, ◌<◌, ◌≤◌, ◌⊎◌, inl, inr, Bool, true, false, List, [], ◌∷◌, ◌++◌, length, drop, min, sym, ap, ◌∙◌, arith}
use Rattle.std.proofs.lemmas.List.{nil_from_length}
use Rattle.std.specs.List.{list_any}
use Rattle.rx_query.specs.Lists.{insert_in_order, without_last, without_first, replaced_first, first_passes, last_passes}
use Rattle.rx_actions.proofs.Windows.{put, window, length-put, length-window, window_below, window_within, window_above, window_rest, without_last-window, without_last-push, put_end}
use Rattle.rx_actions.proofs.Ranks.{NoneIs, rank, rank-le, Stands, not_after, not_before}
use Rattle.rx_actions.proofs.Readings.{Others, first_yes, first_no, last_yes, last_no}
use Rattle.rx_actions.proofs.Edits.{none-window, first-put, last-put, without-put, replace-put, last-some, first-some, placed_in_window}
use Rattle.rx_actions.proofs.Sides.{Place, place_of, found, missed}

module _ {X : Type 0} (before : X → X → Bool) (mine : X → Bool) (T : List X)
    (others : Others before mine T) (s m : ℕ) (old : X) (old_stands : Stands before mine old)
    (new : X) (new_stands : Stands before mine new) where
  -- the place of the old row among the others
  abbrev i : ℕ
  i = rank before old T

  -- and of the new one
  abbrev j : ℕ
  j = rank before new T

  -- the rows before the change
  abbrev R : List X
  R = window s (suc m) (put i old T)

  -- and after it
  abbrev R' : List X
  R' = window s (suc m) (put j new T)

  -- how many rows there were
  size : length R ≡ min (suc m) (suc (length T) - s)
  size = length-window s (suc m) (put i old T) ∙ ap (λ k. min (suc m) (k - s)) (length-put i old T)

  -- and are
  size' : length R' ≡ min (suc m) (suc (length T) - s)
  size' = length-window s (suc m) (put j new T) ∙ ap (λ k. min (suc m) (k - s)) (length-put j new T)

  -- the new place is no farther than the end
  low : j ≤ length T
  low = rank-le before new T

  -- nor is the old one
  low_i : i ≤ length T
  low_i = rank-le before old T

  -- where the old row stood to the window
  place : Place s m i old T R
  place = place_of s m i old T low_i

  -- where the new row stands in the window
  in_window : (q : ℕ) → j ≡ s + q → q ≤ m → R' ≡ put q new (window s m T)
  in_window q e h = window_within s m j q new T e h low

  -- no other row has the key
  none : NoneIs mine (window s m T)
  none = none-window mine s m T others.none

  -- where the window is not empty: the place of its last row, and what the tests of its ends say
  abbrev e : ℕ
  e = s + length R - 1

  -- the old row was before the first or was it
  was_first : first_passes (not_after before mine old) R ≡ true → i ≤ s
  was_first is =
      let some = first-some (not_after before mine old) R is in
      let read = first_yes before mine T others old old_stands old old_stands.is_mine i low_i s m
      (omega (arith, size)) is in
      grind arith

  -- it was behind the last or was it
  was_last : last_passes (not_before before mine old) R ≡ true → e ≤ i
  was_last is =
      let some = last-some (not_before before mine old) R is in
      let read = last_yes before mine T others old old_stands old old_stands.is_mine i low_i s m e
      (omega arith) (omega (arith, size)) is in
      grind arith

  -- the new row is before the first
  is_first : first_passes (not_after before mine new) R ≡ true → (i < s → j < s) × (s < i → j ≤ s)
  is_first is =
      let some = first-some (not_after before mine new) R is in
      first_yes before mine T others new new_stands old old_stands.is_mine i low_i s m
      (omega (arith, size)) is

  -- it isn't
  isnt_first : 0 < length R → first_passes (not_after before mine new) R ≡ false
      → (i < s → s ≤ j) × (s < i → s < j) × (i ≡ s → ⊥)
  isnt_first some is = first_no before mine T others new new_stands old old_stands.is_mine i low_i s
      m (omega (arith, size)) is

  -- it is behind the last
  is_last : last_passes (not_before before mine new) R ≡ true → (i < e → e ≤ j) × (e < i → e < j)
  is_last is =
      let some = last-some (not_before before mine new) R is in
      last_yes before mine T others new new_stands old old_stands.is_mine i low_i s m e
      (omega arith) (omega (arith, size)) is

  -- it isn't
  isnt_last : 0 < length R → last_passes (not_before before mine new) R ≡ false
      → (i < e → j < e) × (e < i → j ≤ e) × (i ≡ e → ⊥)
  isnt_last some is = last_no before mine T others new new_stands old old_stands.is_mine i low_i s m
      e (omega arith) (omega (arith, size)) is

  -- there were no rows
  pub moves_empty : length R ≡ 0 → R ≡ R'
  moves_empty e = nil_from_length R e ∙ sym (nil_from_length R' (omega (arith, size, size')))

  -- the row keeps its place
  pub stays_last : j ≡ i → last_passes mine R ≡ true → list_any mine R ≡ true
      → without_last R ++ new ∷ [] ≡ R'
  stays_last same last inside =
      let w = found mine s m i old T R others.none old_stands.is_mine place inside in
      let at : w.0 ≡ length (window s m T) =
      last-put mine old old_stands.is_mine w.0 (window s m T) none w.3
      (ap (last_passes mine) (sym w.4) ∙ last) in
      ap (λ xs. without_last xs ++ new ∷ []) (w.4 ∙ put_end w.0 old (window s m T) (omega arith))
      ∙ ap (λ xs. xs ++ new ∷ []) (without_last-push (window s m T) old)
      ∙ sym (in_window w.0 (same ∙ w.1) w.2 ∙ put_end w.0 new (window s m T) (omega arith))

  -- it stays the first row
  pub stays_first : j ≡ i → first_passes mine R ≡ true → list_any mine R ≡ true
      → new ∷ drop 1 R ≡ R'
  stays_first same first inside =
      let w = found mine s m i old T R others.none old_stands.is_mine place inside in
      let at : w.0 ≡ 0 = first-put mine old old_stands.is_mine w.0 (window s m T) none w.3
      (ap (first_passes mine) (sym w.4) ∙ first) in
      ap (λ xs. new ∷ drop 1 xs) (w.4 ∙ ap (λ q. put q old (window s m T)) at)
      ∙ sym (in_window 0 (omega arith) (omega arith))

  -- it stays one of the rows
  pub stays_within : j ≡ i → list_any mine R ≡ true → replaced_first mine new R ≡ R'
  stays_within same inside =
      let w = found mine s m i old T R others.none old_stands.is_mine place inside in
      ap (replaced_first mine new) w.4 ∙ replace-put mine old old_stands.is_mine new w.0
      (window s m T) none ∙ sym (in_window w.0 (same ∙ w.1) w.2)

  -- the new row stands before the window, or behind it
  to_before : (s' : ℕ) → s ≡ suc s' → j ≤ s' → R' ≡ window s' (suc m) T
  to_before s' e h = ap (λ k. window k (suc m) (put j new T)) e ∙ window_below s' (suc m) j new T h

  -- the new row stands behind the window
  to_behind : s + suc m ≤ j → R' ≡ window s (suc m) T
  to_behind h = window_above s (suc m) j new T h low

  -- it stays outside the window
  pub stays_outside : j ≡ i → list_any mine R ≡ false → R ≡ R'
  stays_outside same out =
      elim (missed mine s m i old T R others.none old_stands.is_mine place out) [
        | inl w ↦ (let h = w.2 in w.3 ∙ sym (to_before w.0 w.1 (omega arith)))
        | inr w ↦ (let h = w.0 in w.1 ∙ sym (to_behind (omega arith)))
      ]

  -- the row stood in the window, and stands in it
  pub moves_within : list_any mine R ≡ true
      → (s ≡ 0) ⊎ (first_passes (not_after before mine new) R ≡ false)
      → (length R ≤ m) ⊎ (last_passes (not_before before mine new) R ≡ false)
      → insert_in_order before new (without_first mine R) ≡ R'
  moves_within inside start end =
      let w = found mine s m i old T R others.none old_stands.is_mine place inside in
      let at = w.1 in
      let near = w.2 in
      let most = low_i in
      let some : 0 < length R = omega (arith, size) in
      let from : s ≤ j = elim start [
        | inl zero_skip ↦ omega arith
        | inr f ↦
            (let read = isnt_first some f in grind arith)
      ] in
      let upto : j ≤ s + m = elim end [
        | inl short ↦ omega (arith, size, low)
        | inr l ↦
            (let read = isnt_last some l in let n = size in grind arith)
      ] in
      let here : j ≡ s + (j - s) = omega arith in
      ap (λ xs. insert_in_order before new (without_first mine xs)) w.4
      ∙ ap (insert_in_order before new)
      (without-put mine old old_stands.is_mine w.0 (window s m T) none)
      ∙ placed_in_window before new s m (j - s) T here (omega arith)
      ∙ sym (in_window (j - s) here (omega arith))

  -- the row stood before the window
  pub stays_before : list_any mine R ≡ false → first_passes (not_after before mine old) R ≡ true
      → first_passes (not_after before mine new) R ≡ true → R ≡ R'
  stays_before out was is =
      let old_at = was_first was in
      let new_at = is_first is in
      elim (missed mine s m i old T R others.none old_stands.is_mine place out) [
        | inl w ↦ (let e = w.1 in let h = w.2 in w.3 ∙ sym (to_before w.0 w.1 (grind arith)))
        | inr w ↦ (let h = w.0 in absurd (omega arith))
      ]

  -- it stays behind the window
  pub stays_behind : list_any mine R ≡ false → last_passes (not_before before mine old) R ≡ true
      → last_passes (not_before before mine new) R ≡ true → R ≡ R'
  stays_behind out was is =
      let some = last-some (not_before before mine old) R was in
      let old_at = was_last was in
      let new_at = is_last is in
      let n = size in
      let most = low_i in
      let most' = low in
      elim (missed mine s m i old T R others.none old_stands.is_mine place out) [
        | inl w ↦ (let e = w.1 in let h = w.2 in absurd (omega arith))
        | inr w ↦ (let h = w.0 in w.1 ∙ sym
            (to_behind (let far = new_at.1 (omega arith) in omega arith)))
      ]

  -- it moves from before the window to its end
  pub moves_to_last : list_any mine R ≡ false → first_passes (not_after before mine old) R ≡ true
      → last_passes (not_before before mine new) R ≡ true → length R ≤ m → drop 1 R ++ new ∷ [] ≡ R'
  moves_to_last out was is short =
      let some = first-some (not_after before mine old) R was in
      let old_at = was_first was in
      let new_at = is_last is in
      let n = size in
      let most = low_i in
      let most' = low in
      elim (missed mine s m i old T R others.none old_stands.is_mine place out) [
        | inl w ↦
            (let step = w.1 in let h = w.2 in
            let far = new_at.0 (omega arith) in
            let here : j ≡ s + (length T - s) = omega arith in
            ap (λ xs. drop 1 xs ++ new ∷ []) w.3
            ∙ ap (λ xs. xs ++ new ∷ []) (window_rest w.0 m T ∙ ap (λ k. window k m T) (sym w.1))
            ∙ sym (in_window (length T - s) here (omega arith)
            ∙ put_end (length T - s) new (window s m T) (omega (arith, length-window s m T))))
        | inr w ↦ (let h = w.0 in absurd (omega arith))
      ]

  -- it moves from behind the window to its front
  pub moves_to_first : list_any mine R ≡ false → first_passes (not_after before mine new) R ≡ true
      → s ≡ 0 → new ∷ without_last R ≡ R'
  moves_to_first out is at =
      let new_at = is_first is in
      elim (missed mine s m i old T R others.none old_stands.is_mine place out) [
        | inl w ↦ (let step = w.1 in absurd (omega arith))
        | inr w ↦
            (let h = w.0 in
            let near = new_at.1 (omega arith) in
            ap (λ xs. new ∷ without_last xs) w.1
            ∙ ap (λ xs. new ∷ xs) (without_last-window s m T (omega (arith, low_i)))
            ∙ sym (in_window 0 (omega arith) (omega arith)))
      ]

  -- so it does in a window of one row
  pub moves_to_only : list_any mine R ≡ false → first_passes (not_after before mine new) R ≡ true
      → s ≡ 0 → m ≡ 0 → new ∷ drop 1 R ≡ R'
  moves_to_only out is at one =
      let new_at = is_first is in
      elim (missed mine s m i old T R others.none old_stands.is_mine place out) [
        | inl w ↦ (let step = w.1 in absurd (omega arith))
        | inr w ↦
            (let h = w.0 in
            let near = new_at.1 (omega arith) in
            ap (λ xs. new ∷ drop 1 xs) w.1 ∙ ap (λ xs. new ∷ xs)
            (window_rest s m T ∙ ap (λ k. window (suc s) k T) one
            ∙ ap (λ k. window s k T) (sym one))
            ∙ sym (in_window 0 (omega arith) (omega arith)))
      ]

  -- the row stood behind the window, and stands inside it
  pub moves_inside : list_any mine R ≡ false → last_passes (not_before before mine old) R ≡ true
      → first_passes (not_after before mine new) R ≡ false
      → last_passes (not_before before mine new) R ≡ false
      → insert_in_order before new (without_last R) ≡ R'
  moves_inside out was isnt isnt' =
      let some = last-some (not_before before mine old) R was in
      let old_at = was_last was in
      let start = isnt_first some isnt in
      let end = isnt_last some isnt' in
      let n = size in
      let most = low_i in
      let most' = low in
      elim (missed mine s m i old T R others.none old_stands.is_mine place out) [
        | inl w ↦ (let step = w.1 in let h = w.2 in absurd (omega arith))
        | inr w ↦
            (let h = w.0 in
            let from = start.1 (omega arith) in
            let upto = end.1 (omega arith) in
            let here : j ≡ s + (j - s) = omega arith in
            ap (λ xs. insert_in_order before new (without_last xs)) w.1
            ∙ ap (insert_in_order before new) (without_last-window s m T (omega (arith, low_i)))
            ∙ placed_in_window before new s m (j - s) T here (omega arith)
            ∙ sym (in_window (j - s) here (omega arith)))
      ]
