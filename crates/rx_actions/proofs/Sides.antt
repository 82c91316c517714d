-- Where a row that is put into a list stands to a window: before it, in it, or behind it.
use Rattle.std.proofs.Common.{◌≡◌, ℕ, zero, suc, ◌+◌, ◌-◌, ◌≤◌, ◌⊎◌, inl, inr, Bool, true, false, List, length, refl, sym, ap, ◌∙◌, arith}
use Rattle.std.proofs.lemmas.Bool.{false≢true, cases_lt}
use Rattle.std.specs.List.{list_any}
use Rattle.rx_actions.proofs.Windows.{put, window, length-window, window_below, window_within, window_above}
use Rattle.rx_actions.proofs.Ranks.{NoneIs}
use Rattle.rx_actions.proofs.Edits.{none-window, any-none, any-put}

-- R is the window of suc m rows after s over xs with x at place i
pub data Place {X : Type 0} (s m i : ℕ) (x : X) (xs R : List X) : Type 0 where
  before_it : (s' : ℕ) → s ≡ suc s' → i ≤ s' → R ≡ window s' (suc m) xs → Place s m i x xs R
  in_it : (q : ℕ) → i ≡ s + q → q ≤ m → q ≤ length (window s m xs) → R ≡ put q x (window s m xs)
      → Place s m i x xs R
  behind_it : s + suc m ≤ i → R ≡ window s (suc m) xs → Place s m i x xs R

-- it stands in one of the three ways
pub place_of : {X : Type 0} (s m i : ℕ) (x : X) (xs : List X) → i ≤ length xs
    → Place s m i x xs (window s (suc m) (put i x xs))
place_of zero m i x xs h =
    elim (cases_lt m i) [
      | inl lt ↦ behind_it (omega arith) (window_above zero (suc m) i x xs (omega arith) h)
      | inr le ↦ in_it i (omega arith) le (omega (arith, length-window zero m xs))
          (window_within zero m i i x xs (omega arith) le h)
    ]
place_of (suc s) m i x xs h =
    elim (cases_lt i (suc s)) [
      | inl lt ↦ before_it s refl (omega arith) (window_below s (suc m) i x xs (omega arith))
      | inr le ↦
          elim (cases_lt (suc s + m) i) [
            | inl lt ↦ behind_it (omega arith) (window_above (suc s) (suc m) i x xs (omega arith) h)
            | inr up ↦
                in_it (i - suc s) (omega arith) (omega arith)
                (omega (arith, length-window (suc s) m xs))
                (window_within (suc s) m i (i - suc s) x xs (omega arith) (omega arith) h)
          ]
    ]

module _ {X : Type 0} (mine : X → Bool) (s m i : ℕ) (x : X) (xs R : List X) (none : NoneIs mine xs)
    (is_mine : mine x ≡ true) where
  -- the row is in the window
  pub found : Place s m i x xs R → list_any mine R ≡ true
      → (q : ℕ) × (i ≡ s + q) × (q ≤ m) × (q ≤ length (window s m xs))
      × (R ≡ put q x (window s m xs))
  found (before_it s' e h r) any = absurd
      (false≢true (sym (any-none mine _ (none-window mine s' (suc m) xs none))
      ∙ ap (list_any mine) (sym r) ∙ any))
  found (in_it q e h k r) any = (q, e, h, k, r)
  found (behind_it h r) any = absurd (false≢true
      (sym (any-none mine _ (none-window mine s (suc m) xs none)) ∙ ap (list_any mine) (sym r)
      ∙ any))

  -- the row is before it or behind it
  pub missed : Place s m i x xs R → list_any mine R ≡ false
      → ((s' : ℕ) × (s ≡ suc s') × (i ≤ s') × (R ≡ window s' (suc m) xs)) ⊎
      ((s + suc m ≤ i) × (R ≡ window s (suc m) xs))
  missed (before_it s' e h r) any = inl (s', e, h, r)
  missed (in_it q e h k r) any = absurd
      (false≢true (sym any ∙ ap (list_any mine) r ∙ any-put mine x is_mine q (window s m xs)))
  missed (behind_it h r) any = inr (h, r)
