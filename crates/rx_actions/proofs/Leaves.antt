-- A row leaves the matching rows: old stood at place i of the others.
use Rattle.std.proofs.Common.{◌≡◌, ℕ, suc, ◌+◌, ◌-◌, ◌<◌, ◌≤◌, inl, inr, Bool, true, false, List, length, drop, min, sym, ap, ◌∙◌, arith}
use Rattle.std.proofs.lemmas.List.{nil_from_length}
use Rattle.std.specs.List.{list_any}
use Rattle.rx_query.specs.Lists.{without_last, without_first, first_passes, last_passes}
use Rattle.rx_actions.proofs.Windows.{put, window, length-put, length-window, window_short, window_rest, without_last-push, put_end}
use Rattle.rx_actions.proofs.Ranks.{rank, rank-le, Stands, not_before}
use Rattle.rx_actions.proofs.Readings.{Others, last_yes}
use Rattle.rx_actions.proofs.Edits.{none-window, first-put, last-put, without-put, last-some}
use Rattle.rx_actions.proofs.Sides.{Place, place_of, found, missed}

module _ {X : Type 0} (before : X → X → Bool) (mine : X → Bool) (T : List X)
    (others : Others before mine T) (s m : ℕ) (old : X) (stands : Stands before mine old) where
  -- the place of the old row among the others
  abbrev i : ℕ
  i = rank before old T

  -- the old result, and the new one
  abbrev R : List X
  R = window s (suc m) (put i old T)

  -- the rows after the change
  abbrev R' : List X
  R' = window s (suc m) T

  -- how many rows there were
  abbrev size : length R ≡ min (suc m) (suc (length T) - s)
  size = length-window s (suc m) (put i old T) ∙ ap (λ k. min (suc m) (k - s)) (length-put i old T)

  -- where the old row stood to the window
  place : Place s m i old T R
  place = place_of s m i old T (rank-le before old T)

  -- there were no rows
  pub leaves_empty : length R ≡ 0 → R ≡ R'
  leaves_empty e =
      let none : length R' ≡ 0 = omega (arith, size, length-window s (suc m) T) in
      nil_from_length R e ∙ sym (nil_from_length R' none)

  -- it stood behind the window
  pub leaves_behind : list_any mine R ≡ false → last_passes (not_before before mine old) R ≡ true
      → R ≡ R'
  leaves_behind out last =
      let some = last-some (not_before before mine old) R last in
      let read = last_yes before mine T others old stands old stands.is_mine i
      (rank-le before old T) s m (s + length R - 1) (omega arith) (omega (arith, size)) last in
      elim (missed mine s m i old T R others.none stands.is_mine place out) [
        | inl w ↦ (let at = w.1 in let low = w.2 in absurd (grind arith))
        | inr w ↦ w.1
      ]

  -- the row stood before the window
  pub leaves_before : list_any mine R ≡ false → length R ≤ m → 0 < length R → drop 1 R ≡ R'
  leaves_before out short some =
      elim (missed mine s m i old T R others.none stands.is_mine place out) [
        | inl w ↦
            let at = w.1 in
            ap (drop 1) w.3 ∙ window_rest w.0 m T ∙ ap (λ k. window k m T) (sym w.1)
            ∙ sym (window_short s m T (omega (arith, ap length w.3, length-window w.0 (suc m) T)))
        | inr w ↦ absurd (omega (
          arith,
          ap length w.1,
          length-window s (suc m) T,
          rank-le before old
              T,
        ))
      ]

  -- the row stood in the window
  rest : length R ≤ m → window s m T ≡ R'
  rest short = sym (window_short s m T (omega (arith, size)))

  -- it was the first row
  pub leaves_first : list_any mine R ≡ true → length R ≤ m → first_passes mine R ≡ true
      → drop 1 R ≡ R'
  leaves_first inside short first =
      let w = found mine s m i old T R others.none stands.is_mine place inside in
      let none = none-window mine s m T others.none in
      let at : w.0 ≡ 0 = first-put mine old stands.is_mine w.0 (window s m T) none w.3
      (ap (first_passes mine) (sym w.4) ∙ first) in
      ap (drop 1) (w.4 ∙ ap (λ q. put q old (window s m T)) at) ∙ rest short

  -- it was the last row
  pub leaves_last : list_any mine R ≡ true → length R ≤ m → last_passes mine R ≡ true
      → without_last R ≡ R'
  leaves_last inside short last =
      let w = found mine s m i old T R others.none stands.is_mine place inside in
      let none = none-window mine s m T others.none in
      let at : w.0 ≡ length (window s m T) =
      last-put mine old stands.is_mine w.0 (window s m T) none w.3
      (ap (last_passes mine) (sym w.4) ∙ last) in
      ap without_last (w.4 ∙ put_end w.0 old (window s m T) (omega arith))
      ∙ without_last-push (window s m T) old ∙ rest short

  -- it was one of the rows
  pub leaves_within : list_any mine R ≡ true → length R ≤ m → without_first mine R ≡ R'
  leaves_within inside short =
      let w = found mine s m i old T R others.none stands.is_mine place inside in
      let none = none-window mine s m T others.none in
      ap (without_first mine) w.4 ∙ without-put mine old stands.is_mine w.0 (window s m T) none
      ∙ rest short
