-- Collections by their number, and a table of their roots.
use Rattle.std.specs.Prelude.{⊤, ◌≡◌, ℕ, ◌<◌, ◌==◌, List, length, not, slice_index, true, Result}
use Rattle.std.specs.List.{AllByRecursion}
use Rattle.rx_value.specs.Due.{◌>>◌, demand}
use Rattle.rx_tree.specs.Forest.{root_of, is_fork, is_forest}
use Rattle.rx_tree.specs.declared.fault.TreeFault.{TreeFault}
use Rattle.rx_tree.specs.declared.fault.TreeFault.TheVariants.{Twice, Cycle}

-- how many collections there may be
abbrev pub most_collections : ℕ
most_collections = 64

-- a collection becomes a fork: not twice, and not of one that is it or reaches it
abbrev pub may_add : List (ℕ × ℕ) → ℕ → ℕ → Result ⊤ TreeFault
may_add es fork master =
    demand (not (is_fork ◌==◌ es fork)) Twice >> λ _.
    demand (not (root_of ◌==◌ es master == fork)) Cycle

-- each is at its own place
pub record AreThemselves (roots : List ℕ) : Type 0 where
  pub whole : length roots ≡ most_collections
  pub each : (n : ℕ) → n < most_collections → slice_index roots n ≡ n

-- each could follow its master among those before it
pub record IsTree (es : List (ℕ × ℕ)) : Type 0 where
  pub forest : is_forest ◌==◌ es ≡ true
  pub few : AllByRecursion (λ e. e.0 < most_collections) es

-- the root of each is at its place
pub record IsTable (roots : List ℕ) (es : List (ℕ × ℕ)) : Type 0 where
  pub whole : length roots ≡ most_collections
  pub each : (n : ℕ) → n < most_collections → slice_index roots n ≡ root_of ◌==◌ es n
  pub tree : IsTree es
