-- Lists, element by element.
use Rattle.std.proofs.Common.{◌≡◌, inl, inr, ℕ, zero, suc, ◌+◌, Bool, true, false, cond, List, [], ◌∷◌, ◌++◌, take, length, slice_get, Option, Some, None, refl, sym, ap, ◌∙◌, arith}
use Rattle.std.proofs.lemmas.List.{append-nil, take_more, take_at, take_all, take-take}
use Rattle.std.proofs.lemmas.Option.{get_or_from_slice_get, slice_get_within}
use Rattle.rx_query.specs.Lists.{insert_in_order}
use Rattle.rx_query.specs.Result.{at_most}
use Rattle.rx_planner.specs.Rows.{IsFull}

-- what there is up to an element
pub take_up_to : {X : Type 0} (xs : List X) (i : ℕ) (x : X) → slice_get xs i ≡ Some x
    → take (i + 1) xs ≡ take i xs ++ x ∷ []
take_up_to xs i x at =
    take_more xs i x (slice_get_within xs i x at)
    ∙ ap (λ y. take i xs ++ y ∷ []) (get_or_from_slice_get xs i x x at)

-- ---- placing one among those that stay

module _ {X : Type 0} (before : X → X → Bool) where
  -- the first n don't depend on what stands behind them
  pub take_placed : (n : ℕ) (x : X) (xs : List X)
      → take n (insert_in_order before x (take n xs)) ≡ take n (insert_in_order before x xs)
  take_placed zero x xs = refl
  take_placed (suc n) x [] = refl
  take_placed (suc n) x (y ∷ ys) =
      elim (before x y)
      as (λ b. take (suc n) (cond b (x ∷ y ∷ take n ys) (y ∷ insert_in_order before x (take n ys)))
      ≡ take (suc n) (cond b (x ∷ y ∷ ys) (y ∷ insert_in_order before x ys))) [
        | true ↦ ap (λ zs. x ∷ zs) (front n y ys)
        | false ↦ ap (λ zs. y ∷ zs) (take_placed n x ys)
      ]
    where
      front : (m : ℕ) (z : X) (zs : List X) → take m (z ∷ take m zs) ≡ take m (z ∷ zs)
      front zero z zs = refl
      front (suc m) z zs = ap (λ ws. z ∷ ws) (take-take m (suc m) zs (omega arith))

-- ---- as many as are wanted

-- the front of a list that is all, or as long as is wanted
pub cut_front : {X : Type 0} (most : Option ℕ) (xs ys : List X) (ids : List (List ℕ))
    → IsFull most (length xs) ids → (ids ≡ [] → ys ≡ []) → xs ≡ at_most most (xs ++ ys)
cut_front None xs ys ids full none =
    sym (append-nil xs) ∙ ap (λ zs. xs ++ zs) (sym (none full))
cut_front (Some m) xs ys ids (inl is) none = sym (take_at xs ys m is)
cut_front (Some m) xs ys ids (inr h) none =
    sym (take_all m xs h.0)
    ∙ ap (take m) (sym (append-nil xs) ∙ ap (λ zs. xs ++ zs) (sym (none h.1)))
