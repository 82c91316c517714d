-- Known states after the steps of a migration.
use Rattle.std.proofs.Common.{option_map, Option, ◌≡◌, ℕ, List, [], ◌∷◌, ◌++◌, drop, cond, Some, None, slice_get, refl, sym, ap, ◌∙◌, subst}
use Rattle.std.proofs.lemmas.Slice.Eq.{bytes_eq-Decides}
use Rattle.std.specs.List.{AllByRecursion}
use Rattle.std.specs.List.Sorted.{IsStrictlySortedBy}
use Rattle.std.specs.Map.{keys_of}
use Rattle.std.specs.Option.{unwrap_or}
use Rattle.std.specs.Ordering.{match_ordering, ordering_reverse}
use Rattle.std.specs.declared.cmp.Ordering.TheVariants.{Less}
use Rattle.rx_value.specs.Named.{AreRising, named, put_in_order, without}
use Rattle.rx_value.specs.Order.{text_cmp}
use Rattle.rx_value.specs.declared.state.State.{State}
use Rattle.rx_value.proofs.Ordered.{text_total}
use Rattle.rx_value.proofs.Outcomes.{not_none, some_same}
use Rattle.rx_migrate.specs.Migrated.{migrated}
use Rattle.rx_migrate.specs.declared.step.Step.{Step}
use Rattle.rx_migrate.proofs.Laws.{key}
use Rattle.rx_meta.specs.Migrated.{known_after}
use Rattle.rx_meta.specs.Side.{AreKnownByKey}

module _ {X : Type 0} where
  -- what holds of each name holds of one in the midst
  pub within : (P : List ℕ → Type 0) (es rest : List (List ℕ × X)) (e : List ℕ × X)
      → AllByRecursion P (keys_of (es ++ e ∷ rest)) → P e.0
  within P [] rest e all = all.0
  within P (d ∷ es) rest e all = within P es rest e all.1

  -- among rising names the next one goes behind those before it
  pub put_last : (es rest : List (List ℕ × X)) (k : List ℕ) (x : X)
      → AreRising (es ++ (k, x) ∷ rest)
      → put_in_order es k x ++ rest ≡ es ++ (k, x) ∷ rest
  unfolding IsStrictlySortedBy
  put_last [] rest k x rising = refl
  put_last (e ∷ es) rest k x rising =
      let below : text_cmp e.0 k ≡ Less =
      within (λ l. text_cmp e.0 l ≡ Less) es rest (k, x) rising.0 in
      ap (λ o. match_ordering o ((k, x) ∷ e ∷ es) ((e.0, x) ∷ es) (e ∷ put_in_order es k x) ++ rest)
      (text_total.antisymm k e.0 ∙ ap ordering_reverse below)
      ∙ ap (λ l. e ∷ l) (put_last es rest k x rising.1)

  -- the first name finds its value
  pub first_named : (es : List (List ℕ × X)) (e : List ℕ × X) → slice_get es 0 ≡ Some e
      → named es e.0 ≡ Some e.1
  first_named [] e at = not_none at
  first_named (d ∷ es) e at =
      ap (λ b. cond b (Some d.1) (named es e.0))
      ((bytes_eq-Decides e.0 d.0).1 (ap (λ p. p.0) (sym (some_same at))))
      ∙ ap (λ p. Some p.1) (some_same at)

  -- without it the others are left
  pub first_gone : (es : List (List ℕ × X)) (e : List ℕ × X) → slice_get es 0 ≡ Some e
      → without es e.0 ≡ drop 1 es
  first_gone [] e at = not_none at
  first_gone (d ∷ es) e at =
      ap (λ b. cond b es (d ∷ without es e.0))
      ((bytes_eq-Decides e.0 d.0).1 (ap (λ p. p.0) (sym (some_same at))))

  -- the first, as it is taken by its name
  pub taken : (es : List (List ℕ × X)) (e : List ℕ × X) (k n : List ℕ) (o : Option X)
      → slice_get es 0 ≡ Some e → k ≡ e.0 → n ≡ e.0 → o ≡ named es n
      → option_map (λ x. (k, x)) o ≡ slice_get es 0
  taken es e k n o at key name is =
      ap (option_map (λ x. (k, x))) (is ∙ ap (λ l. named es l) name ∙ first_named es e at)
      ∙ ap (λ l. Some (l, e.1)) key ∙ sym at

module _ (steps : List Step) where
  -- the key stays
  key_stays : (s : State) → (unwrap_or (migrated steps s) s).key ≡ s.key
  key_stays s =
      elim (migrated steps s) as (λ o. migrated steps s ≡ o → (unwrap_or o s).key ≡ s.key)
      [ None ↦ (λ at. refl) | Some t ↦ (λ at. key steps s t at) ] refl

  pub keys_stay : (known : List (List ℕ × State))
      → keys_of (known_after steps known) ≡ keys_of known
  keys_stay [] = refl
  keys_stay (e ∷ known) = ap (λ ks. e.0 ∷ ks) (keys_stay known)

  keyed_after : (known : List (List ℕ × State)) → AllByRecursion (λ e. e.1.key ≡ e.0) known
      → AllByRecursion (λ e. e.1.key ≡ e.0) (known_after steps known)
  keyed_after [] all = tt
  keyed_after (e ∷ known) all = (key_stays e.1 ∙ all.0, keyed_after known all.1)

  -- each stands under its key
  pub known_stay : (known : List (List ℕ × State)) → AreKnownByKey known
      → AreKnownByKey (known_after steps known)
  known_stay known by_key = record {
    rising = subst (IsStrictlySortedBy text_cmp) (sym (keys_stay known)) by_key.rising;
    keyed = keyed_after known by_key.keyed;
  }

  -- the first of those left goes behind those before it
  pub one_more : (all left known : List (List ℕ × State)) (e : List ℕ × State) (next : State)
      → all ++ known_after steps left ≡ known_after steps known → slice_get left 0 ≡ Some e
      → AreKnownByKey known → next ≡ unwrap_or (migrated steps e.1) e.1
      → put_in_order all e.0 next ++ known_after steps (drop 1 left) ≡ known_after steps known
  one_more all [] known e next so_far at by_key is = not_none at
  one_more all (d ∷ left) known e next so_far at by_key is =
      let rest = known_after steps left in
      let all_of : all ++ (e.0, unwrap_or (migrated steps e.1) e.1) ∷ rest
      ≡ known_after steps known =
      ap (λ (p : List ℕ × State). all ++ (p.0, unwrap_or (migrated steps p.1) p.1) ∷ rest)
      (sym (some_same at))
      ∙ so_far in
      ap (λ s. put_in_order all e.0 s ++ rest) is
      ∙ put_last all rest e.0 (unwrap_or (migrated steps e.1) e.1)
      (subst (λ l. AreRising l) (sym all_of) (known_stay known by_key).rising)
      ∙ all_of
