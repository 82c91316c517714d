-- Pairs of rising names without the one of a name.
use Rattle.std.proofs.Common.{◌≡◌, ℕ, zero, suc, ◌<◌, true, false, cond, List, [], ◌∷◌, length, get_or, Some, None, refl, sym, ap, ◌∙◌, arith}
use Rattle.std.proofs.lemmas.Slice.Eq.{bytes_eq-Decides}
use Rattle.std.specs.List.{AllByRecursion, remove}
use Rattle.std.specs.List.Sorted.{IsStrictlySortedBy}
use Rattle.std.specs.Map.{keys_of}
use Rattle.std.specs.Str.{bytes_eq}
use Rattle.std.specs.declared.cmp.Ordering.TheVariants.{Less, Greater}
use Rattle.rx_value.specs.Fields.{Pairs, AreFields}
use Rattle.rx_value.specs.Named.{named, without, AreRising}
use Rattle.rx_value.specs.Order.{text_cmp}
use Rattle.rx_value.specs.Value.{is_value}
use Rattle.rx_value.proofs.Places.{name_at, other, turned}

module _ {X : Type 0} where
  -- which isn't there
  pub without_none : (k : List ℕ) (es : List (List ℕ × X)) → named es k ≡ None → without es k ≡ es
  without_none k [] none = refl
  without_none k (e ∷ es) none =
      elim (bytes_eq k e.0) as (λ b. cond b (Some e.1) (named es k) ≡ None
      → cond b es (e ∷ without es k) ≡ e ∷ es) [
        | true ↦ (λ found. absurd (cc))
        | false ↦ (λ rest. ap (λ r. e ∷ r) (without_none k es rest))
      ] none

  -- what holds of all pairs holds of the others
  all_left : (P : List ℕ × X → Type 0) (es : List (List ℕ × X)) (k : List ℕ)
      → AllByRecursion P es → AllByRecursion P (without es k)
  all_left P [] k all = tt
  all_left P (e ∷ es) k all =
      elim (bytes_eq k e.0) as (λ b. AllByRecursion P (cond b es (e ∷ without es k)))
      [ true ↦ all.1 | false ↦ (all.0, all_left P es k all.1) ]

  -- and what holds of all names, of the names of the others
  pub all_without : (P : List ℕ → Type 0) (es : List (List ℕ × X)) (k : List ℕ)
      → AllByRecursion P (keys_of es) → AllByRecursion P (keys_of (without es k))
  all_without P [] k all = tt
  all_without P (e ∷ es) k all =
      elim (bytes_eq k e.0) as (λ b. AllByRecursion P (keys_of (cond b es (e ∷ without es k))))
      [ true ↦ all.1 | false ↦ (all.0, all_without P es k all.1) ]

  -- they rise
  pub without_rising : (es : List (List ℕ × X)) (k : List ℕ) → AreRising es
      → AreRising (without es k)
  unfolding IsStrictlySortedBy
  without_rising [] k rising = tt
  without_rising (e ∷ es) k rising =
      elim (bytes_eq k e.0) as (λ b. AreRising (cond b es (e ∷ without es k))) [
        | true ↦ rising.1
        | false ↦ (
          all_without (λ q. text_cmp e.0 q ≡ Less) es k rising.0,
          without_rising es k
              rising.1,
        )
      ]

  -- to remove what stands at its place is to be without it
  pub remove_is : (es : List (List ℕ × X)) (k : List ℕ) (i : ℕ) → i < length es → AreRising es
      → ((d : List ℕ × X) → (get_or es i d).0 ≡ k) → remove es i ≡ without es k
  unfolding IsStrictlySortedBy
  remove_is [] k i lt rising there = absurd (omega arith)
  remove_is (e ∷ es) k zero lt rising there =
      let same : bytes_eq k e.0 ≡ true = (bytes_eq-Decides k e.0).1 (sym (there e)) in
      sym (ap (λ b. cond b es (e ∷ without es k)) same)
  remove_is (e ∷ es) k (suc i) lt rising there =
      let below : text_cmp e.0 k ≡ Less = ap (text_cmp e.0) (sym (there e))
      ∙ name_at (λ q. text_cmp e.0 q ≡ Less) es i e (omega arith) rising.0 in
      ap (λ r. e ∷ r) (remove_is es k i (omega arith) rising.1 there)
      ∙ sym (ap (λ b. cond b es (e ∷ without es k)) (other k e.0 Greater (turned e.0 k Less below)
      refl))

-- fields without one are fields
pub without_fields : (ps : Pairs) (name : List ℕ) → AreFields ps → AreFields (without ps name)
without_fields ps name fields = record {
  rising = without_rising ps name fields.rising;
  in_range = all_left (λ p. is_value p.1 ≡ true) ps name fields.in_range;
}
