-- Known states stay by key when one is learnt.
use Rattle.std.proofs.Common.{◌≡◌, ℕ, List, [], ◌∷◌, Option, Result, Ok, Err, OnOk, OnErr, refl, sym, ap, ◌∙◌, subst}
use Rattle.std.specs.List.{AllByRecursion}
use Rattle.std.specs.List.Sorted.{IsStrictlySortedBy}
use Rattle.std.specs.Ordering.{match_ordering}
use Rattle.std.specs.declared.cmp.Ordering.TheVariants.{Less, Equal, Greater}
use Rattle.rx_value.specs.Named.{put_in_order}
use Rattle.rx_value.specs.Order.{text_cmp}
use Rattle.rx_value.specs.declared.state.State.{State}
use Rattle.rx_value.proofs.Named.{put_in_order-rising}
use Rattle.rx_value.proofs.Ordered.{text_ties}
use Rattle.rx_meta.specs.Side.{AreKnownByKey}

-- none are by key
pub none_known : AreKnownByKey []
unfolding IsStrictlySortedBy
none_known = record { rising = tt; keyed = tt }

-- each stands under its key, also the one that was put under its own
keyed_put : (es : List (List ℕ × State)) (key : List ℕ) (s : State) → s.key ≡ key
    → AllByRecursion (λ e. e.1.key ≡ e.0) es
    → AllByRecursion (λ e. e.1.key ≡ e.0) (put_in_order es key s)
keyed_put [] key s here all = (here, tt)
keyed_put (e ∷ es) key s here all =
    elim (text_cmp key e.0) as (λ o. text_cmp key e.0 ≡ o → AllByRecursion (λ e. e.1.key ≡ e.0)
    (match_ordering o ((key, s) ∷ e ∷ es) ((e.0, s) ∷ es) (e ∷ put_in_order es key s))) [
      | Less ↦ (λ is. (here, all))
      | Equal ↦ (λ is. (here ∙ text_ties key e.0 is, all.1))
      | Greater ↦ (λ is. (all.0, keyed_put es key s here all.1))
    ] refl

-- with a state that is learnt they are by key
pub learnt : (es : List (List ℕ × State)) (s : State) → AreKnownByKey es
    → AreKnownByKey (put_in_order es s.key s)
learnt es s known = record {
  rising = put_in_order-rising es s.key s known.rising;
  keyed = keyed_put es s.key s refl known.keyed;
}

-- as they were where there was no memory for it
pub learnt_or_not : (r : Result (Option State) State) (es new : List (List ℕ × State))
    (key : List ℕ) (s : State) → key ≡ s.key → AreKnownByKey es
    → OnOk r (new ≡ put_in_order es key s) → OnErr r (new ≡ es) → AreKnownByKey new
learnt_or_not (Ok _) es new key s is known ok err =
    subst AreKnownByKey (sym (ok ∙ ap (λ k. put_in_order es k s) is)) (learnt es s known)
learnt_or_not (Err _) es new key s is known ok err = subst AreKnownByKey (sym err) known
