-- What holds of forks and masters, where `same` tells exactly which collections are equal.
use Rattle.std.specs.Prelude.{◌≡◌, ◌↔◌, ℕ, ◌≤◌, List, length, Bool, true, false, Some}
use Rattle.std.specs.List.{AllByRecursion}
use Rattle.rx_tree.specs.Forest.{root_of, are_joined, is_fork, is_forest, climbed, Reaches}

-- a fork and its master have one root
abbrev pub HaveOneRoot : {X : Type 0} → (X → X → Bool) → Type 0
HaveOneRoot {X} same =
    (es : List (X × X)) → AllByRecursion (λ e. root_of same es e.0 ≡ root_of same es e.1) es

-- going from a fork to its master leads to the root
abbrev pub ReachesItsRoot : {X : Type 0} → (X → X → Bool) → Type 0
ReachesItsRoot {X} same =
    (es : List (X × X)) (n : X) → is_forest same es ≡ true → Reaches same es n (root_of same es n)

-- and ends there
abbrev pub RootIsNoFork : {X : Type 0} → (X → X → Bool) → Type 0
RootIsNoFork {X} same =
    (es : List (X × X)) (n : X) → is_forest same es ≡ true
    → is_fork same es (root_of same es n) ≡ false

-- what is no fork is the root of exactly those that are it or reach it
abbrev pub IsRootOfThoseBelow : {X : Type 0} → (X → X → Bool) → Type 0
IsRootOfThoseBelow {X} same =
    (es : List (X × X)) (top n : X) → is_forest same es ≡ true → is_fork same es top ≡ false
    → (root_of same es n ≡ top) ↔ Reaches same es n top

-- no way up has more steps than there are forks
abbrev pub HasFewSteps : {X : Type 0} → (X → X → Bool) → Type 0
HasFewSteps {X} same =
    (es : List (X × X)) (k : ℕ) (n m : X) → is_forest same es ≡ true
    → climbed same k es n ≡ Some m → k ≤ length es

-- two collections are of one group exactly where both reach one
abbrev pub JoinsWhatMeets : {X : Type 0} → (X → X → Bool) → Type 0
JoinsWhatMeets {X} same =
    (es : List (X × X)) (m n : X) → is_forest same es ≡ true
    → (are_joined same es m n ≡ true)
    ↔ ((top : X) × Reaches same es m top × Reaches same es n top)
