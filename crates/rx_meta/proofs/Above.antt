-- A key above those of the known states: one above the last.
use Rattle.std.proofs.Common.{◌≡◌, ℕ, ◌&&◌, true, false, List, [], ◌∷◌, ◌++◌, reverse, Some, None, slice_get, refl, sym, ap, ◌∙◌, subst}
use Rattle.std.proofs.lemmas.List.{reverse-append, reverse-reverse}
use Rattle.std.specs.List.Sorted.{IsStrictlySortedBy}
use Rattle.std.specs.Ordering.{is_lt}
use Rattle.std.specs.declared.cmp.Ordering.TheVariants.{Less}
use Rattle.rx_value.specs.Named.{AreRising}
use Rattle.rx_value.specs.Order.{text_cmp}
use Rattle.rx_value.specs.declared.state.State.{State}
use Rattle.rx_value.proofs.Ordered.{text_total}
use Rattle.rx_value.proofs.Orderings.{less_is}
use Rattle.rx_value.proofs.Outcomes.{not_none, some_same}
use Rattle.rx_meta.specs.Side.{is_above_known}
use Rattle.rx_meta.proofs.After.{within}

above_end : (es : List (List ℕ × State)) (last : List ℕ × State) (key : List ℕ)
    → AreRising (es ++ last ∷ [])
    → is_above_known (es ++ last ∷ []) key ≡ is_lt (text_cmp last.0 key)
unfolding IsStrictlySortedBy
above_end [] last key rising =
    elim (is_lt (text_cmp last.0 key)) as (λ b. (b && true) ≡ b) [ true ↦ refl | false ↦ refl ]
above_end (e ∷ es) last key rising =
    let below : text_cmp e.0 last.0 ≡ Less =
    within (λ k. text_cmp e.0 k ≡ Less) es [] last rising.0 in
    ap (λ b. is_lt (text_cmp e.0 key) && b) (above_end es last key rising.1)
    ∙ (elim (is_lt (text_cmp last.0 key)) as (λ b. is_lt (text_cmp last.0 key) ≡ b
    → (is_lt (text_cmp e.0 key) && b) ≡ b) [
      | true ↦ (λ is.
          let less : text_cmp e.0 key ≡ Less =
          text_total.trans e.0 last.0 key below (less_is (text_cmp last.0 key) is) in
          ap (λ o. is_lt o && true) less)
      | false ↦ (λ is. elim (is_lt (text_cmp e.0 key)) as (λ b. (b && false) ≡ false) [
        | true ↦ refl
        | false ↦ refl
      ])
    ] refl)

-- of names that rise, where the last is known
pub above_last : (es : List (List ℕ × State)) (last : List ℕ × State) (key : List ℕ)
    → slice_get (reverse es) 0 ≡ Some last → AreRising es
    → is_above_known es key ≡ is_lt (text_cmp last.0 key)
above_last es last key at rising =
    elim (reverse es) as (λ rs. reverse es ≡ rs → slice_get rs 0 ≡ Some last
    → is_above_known es key ≡ is_lt (text_cmp last.0 key)) [
      | [] ↦ (λ is none. not_none none)
      | r ∷ back ↦ (λ is here.
          let split : es ≡ reverse back ++ last ∷ [] =
          sym (reverse-reverse es) ∙ ap reverse (is ∙ ap (λ e. e ∷ back) (some_same here))
          ∙ reverse-append (last ∷ []) back in
          ap (λ l. is_above_known l key) split
          ∙ above_end (reverse back) last key (subst (λ l. AreRising l) split rising))
    ] refl at

-- where there is none
pub above_none : (es : List (List ℕ × State)) (key : List ℕ) → slice_get (reverse es) 0 ≡ None
    → is_above_known es key ≡ true
above_none es key at =
    elim (reverse es) as (λ rs. reverse es ≡ rs → slice_get rs 0 ≡ None
    → is_above_known es key ≡ true) [
      | [] ↦ (λ is none. ap (λ l. is_above_known l key) (sym (reverse-reverse es) ∙ ap reverse is))
      | r ∷ back ↦ (λ is here. not_none (sym here))
    ] refl at
