-- Rows by their places, in the words of the actions.
use Rattle.std.proofs.Common.{◌≡◌, ◌≢◌, ℕ, zero, suc, ◌-◌, ◌<◌, ◌≤◌, Bool, true, false, List, [], ◌∷◌, ◌++◌, length, get_or, insert, remove, refl, ap, ◌∙◌, arith}
use Rattle.std.specs.List.{list_any}
use Rattle.rx_query.specs.Lists.{insert_in_order, without_last, without_first, replaced_first}
use Rattle.rx_actions.specs.Moves.{IsFirst, IsFirstBut}

-- where none passes, none passes
pub none_any : {X : Type 0} (p : X → Bool) (xs : List X)
    → ((k : ℕ) (other : X) → k < length xs → p (get_or xs k other) ≡ false)
    → list_any p xs ≡ false
none_any p [] h = refl
none_any p (y ∷ ys) h =
    rw (h 0 y (omega arith)) (none_any p ys (λ k other lt. h (suc k) other (omega arith)))

-- ---- one row in or out

module _ {X : Type 0} where
  -- the last
  pub remove_last : (xs : List X) → remove xs (length xs - 1) ≡ without_last xs
  remove_last [] = refl
  remove_last (x ∷ []) = refl
  remove_last (x ∷ y ∷ ys) =
      let n : length (x ∷ y ∷ ys) - 1 ≡ suc (length (y ∷ ys) - 1) = omega arith in
      rw n (ap (λ zs. x ∷ zs) (remove_last (y ∷ ys)))

  -- the first that passes
  pub remove_found : (p : X → Bool) (xs : List X) (i : ℕ) → i < length xs → IsFirst p xs i
      → remove xs i ≡ without_first p xs
  remove_found p [] i h first = absurd (omega arith)
  remove_found p (y ∷ ys) zero h first = rw (first.here y) refl
  remove_found p (y ∷ ys) (suc i) h first =
      rw (first.earlier 0 y (omega arith)) (ap (λ zs. y ∷ zs) (remove_found p ys i (omega arith)
      (record { earlier = λ k o lt. first.earlier (suc k) o (omega arith); here = first.here })))

  -- ---- one row in and one out

  -- another for the first that passes
  pub replace_found : (p : X → Bool) (xs : List X) (i : ℕ) (x : X) → i < length xs → IsFirst p xs i
      → remove (insert xs i x) (suc i) ≡ replaced_first p x xs
  replace_found p [] i x h first = absurd (omega arith)
  replace_found p (y ∷ ys) zero x h first = rw (first.here y) refl
  replace_found p (y ∷ ys) (suc i) x h first =
      rw (first.earlier 0 y (omega arith)) (ap (λ zs. y ∷ zs) (replace_found p ys i x (omega arith)
      (record { earlier = λ k o lt. first.earlier (suc k) o (omega arith); here = first.here })))

  -- one in front for the last
  pub last_to_first : (xs : List X) (x : X) → 0 < length xs
      → remove (x ∷ xs) (length xs) ≡ x ∷ without_last xs
  last_to_first [] x some = absurd (omega arith)
  last_to_first (y ∷ ys) x some =
      let n : length ys ≡ length (y ∷ ys) - 1 = omega arith in
      ap (λ k. x ∷ remove (y ∷ ys) k) n ∙ ap (λ zs. x ∷ zs) (remove_last (y ∷ ys))

  -- one at the end for the last
  pub last_for_last : (xs : List X) (x : X) → 0 < length xs
      → remove (insert xs (length xs) x) (length xs - 1) ≡ without_last xs ++ x ∷ []
  last_for_last [] x some = absurd (omega arith)
  last_for_last (y ∷ []) x some = refl
  last_for_last (y ∷ z ∷ zs) x some =
      let n : length (y ∷ z ∷ zs) - 1 ≡ suc (length (z ∷ zs) - 1) = omega arith in
      rw n (ap (λ rest. y ∷ rest) (last_for_last (z ∷ zs) x (omega arith)))

  -- ---- a row in its place by the order

  module _ (precedes : X → X → Bool) (x : X) where
    -- before the first that it precedes
    place_found : (xs : List X) (i : ℕ) → i ≤ length xs
        → ((k : ℕ) (other : X) → k < i → precedes x (get_or xs k other) ≡ false)
        → ((other : X) → i < length xs → precedes x (get_or xs i other) ≡ true)
        → insert xs i x ≡ insert_in_order precedes x xs
    place_found [] zero h lo hi = refl
    place_found [] (suc i) h lo hi = absurd (omega arith)
    place_found (y ∷ ys) zero h lo hi = rw (hi y (omega arith)) refl
    place_found (y ∷ ys) (suc i) h lo hi =
        rw (lo 0 y (omega arith)) (ap (λ zs. y ∷ zs) (place_found ys i (omega arith)
        (λ k o lt. lo (suc k) o (omega arith)) (λ o lt. hi o (omega arith))))

    -- none is left out
    pub placed_is_insert : (xs : List X) (i : ℕ) → i ≤ length xs
        → IsFirstBut (precedes x) xs (length xs) i → insert xs i x ≡ insert_in_order precedes x xs
    placed_is_insert xs i h first =
        place_found xs i h (λ k o lt. first.earlier k o lt (λ e. omega arith)) first.here

    -- one before the place is left out
    pub placed_without_earlier : (xs : List X) (out i : ℕ) → out < i → i ≤ length xs
        → ((k : ℕ) (other : X) → k < i → k ≢ out → precedes x (get_or xs k other) ≡ false)
        → ((other : X) → i < length xs → precedes x (get_or xs i other) ≡ true)
        → remove (insert xs i x) out ≡ insert_in_order precedes x (remove xs out)
    placed_without_earlier xs out zero le h lo hi = absurd (omega arith)
    placed_without_earlier [] out (suc i) le h lo hi = absurd (omega arith)
    placed_without_earlier (y ∷ ys) zero (suc i) le h lo hi =
        place_found ys i (omega arith)
        (λ k o lt. lo (suc k) o (omega arith) (λ e. omega arith)) (λ o lt. hi o (omega arith))
    placed_without_earlier (y ∷ ys) (suc out) (suc i) le h lo hi =
        rw (lo 0 y (omega arith) (λ e. omega arith)) (ap (λ zs. y ∷ zs)
        (placed_without_earlier ys out i (omega arith) (omega arith)
        (λ k o lt ne. lo (suc k) o (omega arith) (λ e. ne (omega arith)))
        (λ o lt. hi o (omega arith))))

    -- one behind the place is left out
    pub placed_without_later : (xs : List X) (out i : ℕ) → i < out → out < length xs
        → ((k : ℕ) (other : X) → k < i → k ≢ out → precedes x (get_or xs k other) ≡ false)
        → ((other : X) → i < length xs → precedes x (get_or xs i other) ≡ true)
        → remove (insert xs i x) (suc out) ≡ insert_in_order precedes x (remove xs out)
    placed_without_later [] out i lt h lo hi = absurd (omega arith)
    placed_without_later (y ∷ ys) zero i lt h lo hi = absurd (omega arith)
    placed_without_later (y ∷ ys) (suc out) zero lt h lo hi = rw (hi y (omega arith)) refl
    placed_without_later (y ∷ ys) (suc out) (suc i) lt h lo hi =
        rw (lo 0 y (omega arith) (λ e. omega arith)) (ap (λ zs. y ∷ zs)
        (placed_without_later ys out i (omega arith) (omega arith)
        (λ k o lt ne. lo (suc k) o (omega arith) (λ e. ne (omega arith)))
        (λ o lt. hi o (omega arith))))
