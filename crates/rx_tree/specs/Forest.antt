-- Forks, each with its master, in the order in which they became forks. Collections go by what
-- `same` tells apart.
use Rattle.std.specs.Prelude.{◌≡◌, ℕ, zero, suc, List, [], ◌∷◌, ◌++◌, Bool, true, not, ◌&&◌}
use Rattle.std.specs.Prelude.{if◌then◌else◌, Option, Some}
use Rattle.std.specs.List.{list_any}
use Rattle.std.specs.Map.{lookup}
use Rattle.rx_value.specs.Due.{◌>>=◌}

module _ {X : Type 0} (same : X → X → Bool) where
  -- ---- roots

  -- the roots, once a fork's tree is joined to its master's
  abbrev pub joined : (X → X) → X × X → X → X
  joined root e n = if same (root n) (root e.0) then root e.1 else root n

  -- the same for more forks in turn
  abbrev pub roots_after : (X → X) → List (X × X) → X → X
  roots_after root [] = root
  roots_after root (e ∷ es) = roots_after (joined root e) es

  -- the root of a collection's tree; without forks each is its own
  abbrev pub root_of : List (X × X) → X → X
  root_of = roots_after (λ n. n)

  -- two collections are of one group
  abbrev pub are_joined : List (X × X) → X → X → Bool
  are_joined es m n = same (root_of es m) (root_of es n)

  -- ---- which may follow which

  -- it is a fork
  abbrev pub is_fork : List (X × X) → X → Bool
  is_fork es n = list_any (λ e. same e.0 n) es

  -- it is a fork of that master
  abbrev pub follows : List (X × X) → X → X → Bool
  follows es master n = list_any (λ e. same e.0 n && same e.1 master) es

  -- a collection may follow a master if it is no fork yet, and isn't the root of the master's tree
  abbrev pub may_follow : List (X × X) → X → X → Bool
  may_follow es fork master = not (is_fork es fork) && not (same (root_of es master) fork)

  -- each could follow its master among those before it
  abbrev pub are_made : List (X × X) → List (X × X) → Bool
  are_made before [] = true
  are_made before (e ∷ es) = may_follow before e.0 e.1 && are_made (before ++ e ∷ []) es

  abbrev pub is_forest : List (X × X) → Bool
  is_forest = are_made []

  -- ---- going from a fork to its master

  -- the master of a fork
  abbrev pub master_of : List (X × X) → X → Option X
  master_of es n = lookup (same n) es

  -- where so many steps lead
  abbrev pub climbed : ℕ → List (X × X) → X → Option X
  climbed zero es n = Some n
  climbed (suc k) es n = master_of es n >>= climbed k es

  -- one collection is the other, or reaches it
  abbrev pub Reaches : List (X × X) → X → X → Type 0
  Reaches es n m = (k : ℕ) × (climbed k es n ≡ Some m)
