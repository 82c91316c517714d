-- The order of learning is of no matter: states by rising key leave the same known states.
use Rattle.std.proofs.Common.{T, ◌≡◌, ℕ, ◌&&◌, true, false, cond, List, [], ◌∷◌, Option, Some, None, refl, sym, ap, ◌∙◌, ◌⊎◌, inl, inr, subst, Less, is_lt}
use Rattle.std.proofs.lemmas.Map.Text.{is_eq-slice_cmp}
use Rattle.std.specs.FinMap.Entries.{find, is_sorted, below_all, same_entries}
use Rattle.std.specs.List.{AllByRecursion}
use Rattle.std.specs.List.Sorted.{IsStrictlySortedBy}
use Rattle.std.specs.Map.{keys_of, values_of}
use Rattle.std.specs.Str.{bytes_eq}
use Rattle.rx_value.specs.Named.{named, AreRising}
use Rattle.rx_value.specs.Order.{text_cmp}
use Rattle.rx_value.specs.declared.state.State.{State}
use Rattle.rx_value.proofs.Ordered.{text_total, text_ties}
use Rattle.rx_value.proofs.Outcomes.{some_same, not_none}
use Rattle.rx_collection.specs.Commit.{by_key}
use Rattle.rx_collection.proofs.Named.{all_put}
use Rattle.rx_replication.specs.Known.{KnownStates, with_learnt}
use Rattle.rx_replication.specs.Member.{Member}
use Rattle.rx_replication.proofs.Commits.{IsAmong, IsOld, IsNewState, by_key-among, learn_at, learn-rising}
use Rattle.rx_replication.proofs.Distinct.{KeysDiffer, differ-agree}
use Rattle.rx_replication.proofs.Handled.{Agree}
use Rattle.rx_replication.proofs.Lists.{all_at, from_values_of}

-- ---- rising names that name the same are the same

module _ {X : Type 0} where
  below_test : (k : List ℕ) (es : List (List ℕ × X))
      → AllByRecursion (λ l. text_cmp k l ≡ Less) (keys_of es) → T (below_all text_cmp k es)
  below_test k [] all = tt
  below_test k (e ∷ es) all =
      subst (λ r. T (is_lt r && below_all text_cmp k es)) (sym all.0) (below_test k es all.1)

  rising_test : (es : List (List ℕ × X)) → AreRising es → T (is_sorted text_cmp es)
  unfolding IsStrictlySortedBy
  rising_test [] up = tt
  rising_test (e ∷ es) up =
      elim (below_all text_cmp e.0 es) as (λ b. T b → T (b && is_sorted text_cmp es)) [
        | true ↦ (λ h. rising_test es up.1)
        | false ↦ (λ h. h)
      ] (below_test e.0 es up.0)

  find-named : (k : List ℕ) (es : List (List ℕ × X)) → find text_cmp k es ≡ named es k
  find-named k [] = refl
  find-named k (e ∷ es) =
      ap (λ b. cond b (Some e.1) (find text_cmp k es)) (is_eq-slice_cmp k e.0)
      ∙ ap (cond (bytes_eq k e.0) (Some e.1)) (find-named k es)

  pub rising_same : (ds es : List (List ℕ × X)) → AreRising ds → AreRising es
      → ((k : List ℕ) → named ds k ≡ named es k) → ds ≡ es
  rising_same ds es a b same =
      same_entries text_cmp text_total text_ties ds es (rising_test ds a) (rising_test es b)
      (λ k. find-named k ds ∙ same k ∙ sym (find-named k es))

-- ---- the same states

module _ (known : KnownStates) (ss ts : List State) (agree : Agree ss)
    (to : (s : State) → Member s ss → Member s ts)
    (from : (s : State) → Member s ts → Member s ss) where
  same_by : (k : List ℕ)
      → IsOld known (with_learnt known ss) ss k ⊎ IsNewState (with_learnt known ss) ss k
      → IsOld known (with_learnt known ts) ts k ⊎ IsNewState (with_learnt known ts) ts k
      → named (with_learnt known ss) k ≡ named (with_learnt known ts) k
  same_by k (inl o) (inl p) = o.same ∙ sym p.same
  same_by k (inl o) (inr n) = absurd (o.absent n.state (from n.state n.member) n.key)
  same_by k (inr n) (inl o) = absurd (o.absent n.state (to n.state n.member) n.key)
  same_by k (inr n) (inr m) =
      n.held
      ∙ ap Some (agree n.state m.state n.member (from m.state m.member) (n.key ∙ sym m.key))
      ∙ sym m.held

  -- learnt in another order leave the same
  pub learn_same : AreRising known → with_learnt known ss ≡ with_learnt known ts
  learn_same rising =
      rising_same (with_learnt known ss) (with_learnt known ts) (learn-rising known ss rising)
      (learn-rising known ts rising)
      (λ k. same_by k (learn_at known ss k) (learn_at known ts k))

from_by_key : (ss : List State) (s : State) → Member s (values_of (by_key ss)) → Member s ss
from_by_key ss s m =
    let e = from_values_of (by_key ss) s m in
    subst (λ (t : State). Member t ss) (sym e.2)
    (all_at (λ e. Member e.1 ss) (by_key ss) e.0 (each ss (λ t h. h)) e.1)
  where
    each : (ts : List State) → ((t : State) → Member t ts → Member t ss)
        → AllByRecursion (λ e. Member e.1 ss) (by_key ts)
    each [] sub = tt
    each (t ∷ ts) sub =
        all_put (λ k t. Member t ss) (by_key ts) t.key t (sub t (inl refl))
        (each ts (λ u h. sub u (inr h)))

found_in : (es : List (List ℕ × State)) (k : List ℕ) (s : State) → named es k ≡ Some s
    → Member s (values_of es)
found_in [] k s at = not_none at
found_in (e ∷ es) k s at =
    elim (bytes_eq k e.0) as (λ b. cond b (Some e.1) (named es k) ≡ Some s
    → Member s (values_of (e ∷ es))) [
      | true ↦ (λ is. inl (sym (some_same is)))
      | false ↦ (λ is. inr (found_in es k s is))
    ] at

to_by : (ss : List State) → Agree ss → (s : State) → Member s ss → (o : Option State)
    → named (by_key ss) s.key ≡ o → IsAmong s.key ss o → Member s (values_of (by_key ss))
to_by ss agree s m None at among = absurd (among.none refl s m refl)
to_by ss agree s m (Some t) at among =
    let a = among.some t refl in
    subst (λ (u : State). Member u (values_of (by_key ss))) (agree t s a.0 m a.1)
    (found_in (by_key ss) s.key t at)

-- so by rising key
pub learn-by_key : (known : KnownStates) (ss : List State) → AreRising known → KeysDiffer ss
    → with_learnt known (values_of (by_key ss)) ≡ with_learnt known ss
learn-by_key known ss rising apart =
    let agree = differ-agree ss apart in
    sym (learn_same known ss (values_of (by_key ss)) agree
    (λ s m. to_by ss agree s m (named (by_key ss) s.key) refl (by_key-among ss s.key))
    (from_by_key ss) rising)
