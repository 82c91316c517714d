-- Lists whose first members have been changed in place.
use Rattle.std.proofs.Common.{◌≡◌, ℕ, zero, suc, ◌+◌, ◌<◌, List, [], ◌∷◌, length, map, get_or, refl, sym, ap, ◌∙◌, arith, add-one}
use Rattle.std.proofs.Math.ListN.{set}
use Rattle.std.specs.List.{AllByRecursion}

-- with the first i changed
abbrev pub done : {X : Type 0} → (X → X) → ℕ → List X → List X
done f zero xs = xs
done f (suc i) [] = []
done f (suc i) (x ∷ xs) = f x ∷ done f i xs

module _ {X : Type 0} (f : X → X) where
  -- the next one isn't changed yet
  get-done : (i : ℕ) (xs : List X) (d : X) → get_or (done f i xs) i d ≡ get_or xs i d
  get-done zero xs d = refl
  get-done (suc i) [] d = refl
  get-done (suc i) (x ∷ xs) d = get-done i xs d

  -- there are as many
  pub length-done : (i : ℕ) (xs : List X) → length (done f i xs) ≡ length xs
  length-done zero xs = refl
  length-done (suc i) [] = refl
  length-done (suc i) (x ∷ xs) = ap suc (length-done i xs)

  -- to change it is one step more
  set-done : (i : ℕ) (xs : List X) (d : X) → i < length xs
      → set (done f i xs) i (f (get_or xs i d)) ≡ done f (suc i) xs
  set-done zero [] d h = absurd (omega arith)
  set-done zero (x ∷ xs) d h = refl
  set-done (suc i) [] d h = absurd (omega arith)
  set-done (suc i) (x ∷ xs) d h = ap (λ ys. f x ∷ ys) (set-done i xs d (omega arith))

  -- after all steps all are changed
  done-all : (xs : List X) → done f (length xs) xs ≡ map f xs
  done-all [] = refl
  done-all (x ∷ xs) = ap (λ ys. f x ∷ ys) (done-all xs)

  -- ---- as a loop has it: the list now, and the one that it reads at i

  module _ (i : ℕ) (xs ys : List X) (is : ys ≡ done f i xs) where
    -- is as it was
    pub read-done : (x : X) → x ≡ get_or ys i x → x ≡ get_or xs i x
    read-done x at = at ∙ ap (λ zs. get_or zs i x) is ∙ get-done i xs x

    -- written, it is one step more
    pub step-done : (x : X) → x ≡ get_or ys i x → i < length xs
        → set ys i (f x) ≡ done f (i + 1) xs
    step-done x at within =
        ap (λ zs. set zs i (f x)) is ∙ ap (λ z. set (done f i xs) i (f z)) (read-done x at)
        ∙ set-done i xs x within ∙ ap (λ n. done f n xs) (sym (add-one i))

    -- at the end
    pub end-done : i ≡ length xs → ys ≡ map f xs
    end-done end = is ∙ ap (λ n. done f n xs) end ∙ done-all xs

-- what holds of all holds of the one at a place
pub all_at : {X : Type 0} (P : X → Type 0) (i : ℕ) (xs : List X) (d : X) → AllByRecursion P xs
    → i < length xs → P (get_or xs i d)
all_at P i [] d all h = absurd (omega arith)
all_at P zero (x ∷ xs) d all h = all.0
all_at P (suc i) (x ∷ xs) d all h = all_at P i xs d all.1 (omega arith)
