-- A thing among others by name.
use Rattle.std.proofs.Common.{◌≡◌, ℕ, Bool, true, false, cond, List, [], ◌∷◌, ◌++◌, Some, None, refl, sym, ap, ◌∙◌, subst}
use Rattle.std.proofs.lemmas.List.{map-append}
use Rattle.std.specs.List.{AllByRecursion, IsDistinct}
use Rattle.std.specs.Map.{keys_of}
use Rattle.std.specs.Str.{bytes_eq}
use Rattle.rx_value.specs.Named.{named, put_named}
use Rattle.rx_value.proofs.Bytes.{bytes_apart_turned}
use Rattle.rx_value.proofs.Lists.{all_at}
use Rattle.rx_value.proofs.Outcomes.{not_none}

-- where none comes twice, each differs from those before it
pub apart_before : {X : Type 0} (same : X → X → Bool) (before : List X) (x : X) (rest : List X)
    → IsDistinct same (before ++ x ∷ rest) → AllByRecursion (λ y. same y x ≡ false) before
unfolding IsDistinct
apart_before same [] x rest distinct = tt
apart_before same (y ∷ before) x rest distinct = (
  all_at (λ z. same y z ≡ false) before x rest distinct.0,
  apart_before same before x rest distinct.1,
)

-- no thing has the name
abbrev pub IsFree : {X : Type 0} → List ℕ → List (List ℕ × X) → Type 0
IsFree name es = AllByRecursion (λ e. bytes_eq name e.0 ≡ false) es

module _ {X : Type 0} where
  -- the names of things, of which one is among the others
  pub keys_among : (all before : List (List ℕ × X)) (e : List ℕ × X) (rest : List (List ℕ × X))
      → all ≡ before ++ e ∷ rest → keys_of all ≡ keys_of before ++ e.0 ∷ keys_of rest
  keys_among all before e rest at =
      ap (λ (es : List (List ℕ × X)). keys_of es) at
      ∙ map-append (λ (d : List ℕ × X). d.0) before (e ∷ rest)

  -- where no name comes twice, none of those before has its name
  pub free_before : (all before : List (List ℕ × X)) (e : List ℕ × X) (rest : List (List ℕ × X))
      → all ≡ before ++ e ∷ rest → IsDistinct bytes_eq (keys_of all) → IsFree e.0 before
  free_before all before e rest at distinct =
      free before (apart_before bytes_eq (keys_of before) e.0 (keys_of rest)
      (subst (IsDistinct bytes_eq) (keys_among all before e rest at) distinct))
    where
      free : (es : List (List ℕ × X)) → AllByRecursion (λ n. bytes_eq n e.0 ≡ false) (keys_of es)
          → IsFree e.0 es
      free [] apart = tt
      free (d ∷ es) apart = (bytes_apart_turned d.0 e.0 apart.0, free es apart.1)

  -- put at a free name, a thing goes to the end
  pub put_at_end : (es : List (List ℕ × X)) (name : List ℕ) (x : X) → named es name ≡ None
      → put_named es name x ≡ es ++ (name, x) ∷ []
  put_at_end [] name x none = refl
  put_at_end (e ∷ es) name x none =
      elim (bytes_eq name e.0) as (λ b. cond b (Some e.1) (named es name) ≡ None
      → cond b ((e.0, x) ∷ es) (e ∷ put_named es name x) ≡ e ∷ (es ++ (name, x) ∷ [])) [
        | true ↦ (λ found. not_none (sym found))
        | false ↦ (λ later. ap (λ ds. e ∷ ds) (put_at_end es name x later))
      ] none
