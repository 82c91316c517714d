-- The parts of a list: what they are together, and that none of them is empty.
use Rattle.std.proofs.Common.{◌≡◌, ◌≢◌, ℕ, zero, suc, ◌≤◌, List, [], ◌∷◌, ◌++◌, length, take, drop, length-drop, refl, ap, ◌∙◌, arith}
use Rattle.std.proofs.lemmas.List.{take-append-drop}
use Rattle.std.specs.List.{AllByRecursion, flat_map}
use Rattle.rx_compact.specs.Plan.{most_in_part, some_parts, in_parts}

module _ {X : Type 0} where
  -- so many parts as there are items are enough
  some_join : (n : ℕ) (xs : List X) → length xs ≤ n → flat_map (λ p. p) (some_parts n xs) ≡ xs
  some_join zero [] enough = refl
  some_join zero (x ∷ xs) enough = absurd (omega arith)
  some_join (suc n) [] enough = refl
  some_join (suc n) (x ∷ xs) enough =
      let rest = drop most_in_part (x ∷ xs) in
      let fewer : length rest ≤ n = omega (arith, length-drop most_in_part (x ∷ xs)) in
      ap (λ ys. take most_in_part (x ∷ xs) ++ ys) (some_join n rest fewer)
      ∙ take-append-drop most_in_part (x ∷ xs)

  -- the parts one after another are the list
  pub parts_join : (xs : List X) → flat_map (λ p. p) (in_parts xs) ≡ xs
  parts_join xs = some_join (length xs) xs (omega arith)

  some_some : (n : ℕ) (xs : List X) → AllByRecursion (λ p. p ≢ []) (some_parts n xs)
  some_some zero xs = tt
  some_some (suc n) [] = tt
  some_some (suc n) (x ∷ xs) = (λ none. cc, some_some n (drop most_in_part (x ∷ xs)))

  -- each part has an item
  pub parts_some : (xs : List X) → AllByRecursion (λ p. p ≢ []) (in_parts xs)
  parts_some xs = some_some (length xs) xs

  -- a list of none has no parts
  pub no_parts : in_parts {X = X} [] ≡ []
  no_parts = refl

  -- and any other has some
  pub has_parts : (x : X) (xs : List X) → in_parts (x ∷ xs) ≢ []
  has_parts x xs none = cc

  -- any number of parts that is enough gives the same ones
  some_alike : (n m : ℕ) (xs : List X) → length xs ≤ n → length xs ≤ m
      → some_parts n xs ≡ some_parts m xs
  some_alike zero zero xs few enough = refl
  some_alike zero (suc m) [] few enough = refl
  some_alike zero (suc m) (x ∷ xs) few enough = absurd (omega (arith, few))
  some_alike (suc n) zero [] few enough = refl
  some_alike (suc n) zero (x ∷ xs) few enough = absurd (omega (arith, enough))
  some_alike (suc n) (suc m) [] few enough = refl
  some_alike (suc n) (suc m) (x ∷ xs) few enough =
      let rest = drop most_in_part (x ∷ xs) in
      let fewer : length rest ≤ n = omega (arith, length-drop most_in_part (x ∷ xs), few) in
      let less : length rest ≤ m = omega (arith, length-drop most_in_part (x ∷ xs), enough) in
      ap (λ ps. take most_in_part (x ∷ xs) ∷ ps) (some_alike n m rest fewer less)

  -- the first part, and those of what is left
  pub first_part : (xs : List X) → take most_in_part xs ≢ []
      → in_parts xs ≡ take most_in_part xs ∷ in_parts (drop most_in_part xs)
  first_part [] some = absurd (some refl)
  first_part (x ∷ xs) some =
      let rest = drop most_in_part (x ∷ xs) in
      let fewer : length rest ≤ length xs = omega (arith, length-drop most_in_part (x ∷ xs)) in
      ap (λ ps. take most_in_part (x ∷ xs) ∷ ps)
      (some_alike (length xs) (length rest) rest fewer (omega arith))

  -- where the first part is empty there is none
  pub no_first_part : (xs : List X) → take most_in_part xs ≡ [] → in_parts xs ≡ []
  no_first_part [] none = refl
  no_first_part (x ∷ xs) none = absurd (cc)
