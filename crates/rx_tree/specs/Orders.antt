-- The orders in which the forks of a tree are gone through.
use Rattle.std.specs.Prelude.{◌≡◌, ◌↔◌, ℕ, zero, suc, ◌==◌, true, List, [], ◌∷◌, ◌++◌, length, Some}
use Rattle.std.specs.List.{filter, flat_map, list_any}
use Rattle.rx_tree.specs.Forest.{climbed, follows}
use Rattle.rx_tree.specs.Table.{IsTree, most_collections}

module _ {X : Type 0} (forks : X → List X) where
  -- so many levels of the forks below a collection, each before those below it
  abbrev pub levels_down : ℕ → X → List X
  levels_down zero n = []
  levels_down (suc k) n = flat_map (λ c. c ∷ levels_down k c) (forks n)

  -- and each after those below it
  abbrev pub levels_up : ℕ → X → List X
  levels_up zero n = []
  levels_up (suc k) n = flat_map (λ c. levels_up k c ++ c ∷ []) (forks n)

-- ---- of collections by their number

-- the numbers below one
unfoldable pub numbers_below : ℕ → List ℕ
numbers_below zero = []
numbers_below (suc n) = numbers_below n ++ n ∷ []

-- the forks of a collection, by rising number
abbrev pub forks_of : List (ℕ × ℕ) → ℕ → List ℕ
forks_of es n = filter (follows ◌==◌ es n) (numbers_below most_collections)

-- the forks below a collection in either order: there are no more levels than forks
abbrev pub down : List (ℕ × ℕ) → ℕ → List ℕ
down es n = levels_down (forks_of es) (length es) n

abbrev pub up : List (ℕ × ℕ) → ℕ → List ℕ
up es n = levels_up (forks_of es) (length es) n

-- an order lists exactly the forks that reach the collection
abbrev pub ListsThoseBelow : (List (ℕ × ℕ) → ℕ → List ℕ) → Type 0
ListsThoseBelow order =
    (es : List (ℕ × ℕ)) (n top : ℕ) → IsTree es
    → (list_any (λ c. c == n) (order es top) ≡ true)
    ↔ ((k : ℕ) × (climbed ◌==◌ (suc k) es n ≡ Some top))
