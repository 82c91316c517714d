-- A way has no more steps than there are forks.
use Rattle.std.proofs.Common.{◌≡◌, ℕ, zero, suc, ◌<◌, ◌≤◌, Bool, true, false, cond, not, List, []}
use Rattle.std.proofs.Common.{◌∷◌, length, Some, None, refl, sym, ap, ◌∙◌, subst, arith}
use Rattle.std.specs.Bool.{Decides}
use Rattle.std.specs.List.{filter}
use Rattle.rx_value.specs.Due.{◌>>=◌}
use Rattle.rx_value.proofs.Outcomes.{some_then, not_none}
use Rattle.rx_tree.specs.Forest.{master_of, climbed}
use Rattle.rx_tree.specs.Laws.{HasFewSteps}
use Rattle.rx_tree.proofs.Climbing.{apart}
use Rattle.rx_tree.proofs.Forests.{never_back}

module _ {X : Type 0} (same : X → X → Bool) (law : (m n : X) → Decides (same m n) (m ≡ n)) where
  -- the forks but one
  abbrev others : X → List (X × X) → List (X × X)
  others n es = filter (λ e. not (same n e.0)) es

  -- it has no master among them
  none_at : (n : X) (es : List (X × X)) → master_of same (others n es) n ≡ None
  none_at n [] = refl
  none_at n (e ∷ es) =
      elim (same n e.0)
      as (λ b. same n e.0 ≡ b
      → master_of same (cond (not b) (e ∷ others n es) (others n es)) n ≡ None) [
        | true ↦ (λ is. none_at n es)
        | false ↦ (λ is.
            ap (λ b. cond b (Some e.1) (master_of same (others n es) n)) is ∙ none_at n es)
      ] refl

  -- any other has the one that it had
  stays : (n m : X) (es : List (X × X)) → same n m ≡ false
      → master_of same (others n es) m ≡ master_of same es m
  stays n m [] other = refl
  stays n m (e ∷ es) other =
      let rest = stays n m es other in
      elim (same n e.0)
      as (λ b. same n e.0 ≡ b
      → master_of same (cond (not b) (e ∷ others n es) (others n es)) m
      ≡ cond (same m e.0) (Some e.1) (master_of same es m)) [
        | true ↦ (λ is.
            let not_here = ap (same m) (sym ((law n e.0).0 is)) ∙ apart same law n m other in
            rest ∙ sym (ap (λ b. cond b (Some e.1) (master_of same es m)) not_here))
        | false ↦ (λ is. ap (cond (same m e.0) (Some e.1)) rest)
      ] refl

  -- what is found among them was there
  was : (n m x : X) (es : List (X × X)) → master_of same (others n es) m ≡ Some x
      → master_of same es m ≡ Some x
  was n m x es is =
      elim (same n m) as (λ b. same n m ≡ b → master_of same es m ≡ Some x) [
        | true ↦ (λ so. not_none
            (sym (none_at n es)
            ∙ subst (λ (y : X). master_of same (others n es) y ≡ Some x) (sym ((law n m).0 so)) is))
        | false ↦ (λ so. sym (stays n m es so) ∙ is)
      ] refl

  not_more : (n : X) (es : List (X × X)) → length (others n es) ≤ length es
  not_more n [] = omega arith
  not_more n (e ∷ es) =
      let rest = not_more n es in
      elim (same n e.0)
      as (λ b. length (cond (not b) (e ∷ others n es) (others n es)) ≤ length (e ∷ es))
      [ true ↦ omega (arith, rest) | false ↦ omega (arith, rest) ]

  -- without a fork there are fewer
  fewer : (n x : X) (es : List (X × X)) → master_of same es n ≡ Some x
      → length (others n es) < length es
  fewer n x [] is = not_none is
  fewer n x (e ∷ es) is =
      let most = not_more n es in
      elim (same n e.0)
      as (λ b. cond b (Some e.1) (master_of same es n) ≡ Some x
      → length (cond (not b) (e ∷ others n es) (others n es)) < length (e ∷ es)) [
        | true ↦ (λ found. omega (arith, most))
        | false ↦ (λ found. let less = fewer n x es found in omega (arith, less))
      ] is

  -- a way that never comes to a fork goes without it
  avoids : (k : ℕ) (es : List (X × X)) (n m top : X)
      → ((j : ℕ) → climbed same j es m ≡ Some n → ⊥) → climbed same k es m ≡ Some top
      → climbed same k (others n es) m ≡ Some top
  avoids zero es n m top never is = is
  avoids (suc k) es n m top never is =
      let found = some_then (master_of same es m) (climbed same k es) top is in
      let other : same n m ≡ false =
      elim (same n m) as (λ b. same n m ≡ b → b ≡ false) [
        | true ↦ (λ so. absurd (never 0 (ap Some (sym ((law n m).0 so)))))
        | false ↦ (λ so. refl)
      ] refl in
      ap (λ o. o >>= climbed same k (others n es)) (stays n m es other ∙ found.1)
      ∙ avoids k es n found.0 top
      (λ j up. never (suc j) (ap (λ o. o >>= climbed same j es) found.1 ∙ up)) found.2

  -- a way without it was there
  inside : (k : ℕ) (es : List (X × X)) (n m top : X) → climbed same k (others n es) m ≡ Some top
      → climbed same k es m ≡ Some top
  inside zero es n m top is = is
  inside (suc k) es n m top is =
      let rest = others n es in
      let found = some_then (master_of same rest m) (climbed same k rest) top is in
      ap (λ o. o >>= climbed same k es) (was n m found.0 es found.1)
      ∙ inside k es n found.0 top found.2

  few_steps : (k : ℕ) (es : List (X × X)) (n top : X)
      → ((m : X) (j : ℕ) → climbed same (suc j) es m ≡ Some m → ⊥)
      → climbed same k es n ≡ Some top → k ≤ length es
  few_steps zero es n top never is = omega arith
  few_steps (suc k) es n top never is =
      let found = some_then (master_of same es n) (climbed same k es) top is in
      let rest = avoids k es n found.0 top
      (λ j up. never n j (ap (λ o. o >>= climbed same j es) found.1 ∙ up)) found.2 in
      let few = few_steps k (others n es) found.0 top
      (λ m j back. never m j (inside (suc j) es n m m back)) rest in
      let less = fewer n found.0 es found.1 in
      omega (arith, few, less)

  pub few : HasFewSteps same
  few es k n m forest = few_steps k es n m (never_back same law es forest)
