-- The roots of forks and masters.
use Rattle.std.proofs.Common.{◌≡◌, true, false, cond, Bool, List, [], ◌∷◌, ◌++◌, refl, ap}
use Rattle.std.specs.Bool.{Decides}
use Rattle.std.specs.List.{AllByRecursion}
use Rattle.rx_tree.specs.Forest.{joined, roots_after}
use Rattle.rx_tree.specs.Laws.{HaveOneRoot}

module _ {X : Type 0} (same : X → X → Bool) (law : (m n : X) → Decides (same m n) (m ≡ n)) where
  -- a collection is itself
  pub itself : (n : X) → same n n ≡ true
  itself n = (law n n).1 refl

  -- what has one root keeps it
  together : (es : List (X × X)) (root : X → X) (m n : X) → root m ≡ root n
      → roots_after same root es m ≡ roots_after same root es n
  together [] root m n one = one
  together (e ∷ es) root m n one =
      together es (joined same root e) m n
      (ap (λ r. cond (same r (root e.0)) (root e.1) r) one)

  -- a fork that is joined to its master has its root
  joins : (root : X → X) (e : X × X) → joined same root e e.0 ≡ joined same root e e.1
  joins root e =
      rw (itself (root e.0))
      (elim (same (root e.1) (root e.0)) as (λ b. root e.1 ≡ cond b (root e.1) (root e.1))
      [ true ↦ refl | false ↦ refl ])

  one_root_after : (es : List (X × X)) (root : X → X)
      → AllByRecursion (λ e. roots_after same root es e.0 ≡ roots_after same root es e.1) es
  one_root_after [] root = tt
  one_root_after (e ∷ es) root = (
    together es (joined same root e) e.0 e.1 (joins root e),
    one_root_after es (joined same root e),
  )

  pub one_root : HaveOneRoot same
  one_root es = one_root_after es (λ n. n)

  -- the roots after one more fork
  pub roots_after-last : (es : List (X × X)) (root : X → X) (e : X × X) (n : X)
      → roots_after same root (es ++ e ∷ []) n ≡ joined same (roots_after same root es) e n
  roots_after-last [] root e n = refl
  roots_after-last (d ∷ es) root e n = roots_after-last es (joined same root d) e n
