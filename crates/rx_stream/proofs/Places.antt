-- Places that follow each other, and the last place of documents.
use Rattle.std.proofs.Common.{◌≡◌, ◌∙◌, ◌≤◌, ◌⊎◌, ℕ, true, false, not, List, [], ◌∷◌, ◌++◌, map, append-nil, Option, Some, None, IfSome, option_map, refl, sym, ap, subst, inl, inr, arith, lt-ltb, le-leb, true≢false, Ordering, Less, Equal, Greater, is_lt}
use Rattle.std.specs.Cmp.Derive.{both_true}
use Rattle.std.specs.Iterator.{Drains, Yields}
use Rattle.std.specs.List.{last_or}
use Rattle.std.specs.Map.Iter.{TakesFirst}
use Rattle.std.specs.Ordering.{ordering_reverse}
use Rattle.std.proofs.lemmas.Map.Iter.{rest_so_far}
use Rattle.rx_value.specs.Named.{named}
use Rattle.rx_value.specs.declared.state.State.{State}
use Rattle.rx_document.specs.Documents.{Documents}
use Rattle.rx_document.specs.Place.{place_cmp, place_total}
use Rattle.rx_document.specs.declared.place.Place.{Place}
use Rattle.rx_document.specs.declared.stored.Stored.{Stored}
use Rattle.rx_collection.specs.Held.{Held}
use Rattle.rx_collection.specs.Lawful.{IsLawful, IsHeldAt}
use Rattle.rx_collection.specs.Since.{place_of, since}
use Rattle.rx_collection.proofs.Named.{at_name}
use Rattle.rx_replication.specs.Answered.{IsPullAnswered}
use Rattle.rx_replication.specs.Master.{last_place}
use Rattle.rx_replication.specs.Member.{Member}
use Rattle.rx_replication.specs.Sound.{Reach}
use Rattle.rx_replication.specs.Taking.{place_or}
use Rattle.rx_replication.specs.Write.{is_up_to, AreByKey}
use Rattle.rx_replication.proofs.Commits.{lawful-by_key}
use Rattle.rx_replication.proofs.Orders.{up_to_itself, up_to-above}
use Rattle.rx_replication.proofs.Pages.{last_place_is, page_held, since-page, stands_above}
use Rattle.rx_stream.specs.Good.{IsTimed}

-- ---- the order of places

above_higher : (p q r : Place) (o : Ordering) → place_cmp q p ≡ o → not (is_lt o) ≡ true
    → place_cmp r p ≡ Less → place_cmp r q ≡ Less
above_higher p q r Less is low h = absurd (true≢false (sym low))
above_higher p q r Equal is low h =
    place_total.antisymm r q ∙ ap ordering_reverse (place_total.congr q p r is)
    ∙ sym (place_total.antisymm r p) ∙ h
above_higher p q r Greater is low h =
    place_total.trans r p q h (place_total.antisymm p q ∙ ap ordering_reverse is)

-- what is up to a lower place is up to a higher one
pub up_to_both : (p q r : Place) → is_up_to p (Some q) ≡ true → is_up_to q (Some r) ≡ true
    → is_up_to p (Some r) ≡ true
up_to_both p q r a b =
    elim (is_up_to p (Some r)) as (λ z. is_up_to p (Some r) ≡ z → z ≡ true) [
      | true ↦ (λ h. refl)
      | false ↦ (λ h. absurd (true≢false (sym b ∙ ap (λ o. not (is_lt o))
          (above_higher p q r (place_cmp q p) refl a (up_to-above r p h)))))
    ] refl

-- where the place of an answer isn't above the master's last one, neither is the asked place
pub from_reached : (m : Documents) (from : Option Place) (ss : List State) (to : Place)
    → IsPullAnswered m from ss (Some to) → Reach m from
from_reached m None ss to a = tt
from_reached m (Some p) ss to a =
    let r = a.reached in (r.0, r.1, r.2, up_to_both p to (place_of r.1) (a.risen p refl) r.3)

-- ---- the last place

-- what an iterator ends with is the last of what it had
last_shown : {A X : Type 0} (shows : A → X) (o : Option A) (xs : List A)
    → option_map shows (last_or o xs) ≡ last_or (option_map shows o) (map shows xs)
last_shown shows o [] = refl
last_shown shows o (x ∷ xs) = last_shown shows (Some x) xs

shown_all : {A X : Type 0} (shows : A → X) (s t u : List X) (xs : List A)
    → Yields (TakesFirst shows) s xs t → TakesFirst shows t None u → map shows xs ≡ s
shown_all shows s t u xs y ends =
    sym (rest_so_far shows xs s t y ∙ ap (λ ys. map shows xs ++ ys) ends.0
    ∙ append-nil (map shows xs))

pub last_drained : {A X : Type 0} (shows : A → X) (s : List X) (xs : List A) (r : Option A)
    → Drains (TakesFirst shows) s xs → r ≡ last_or None xs
    → option_map shows r ≡ last_or None s
last_drained shows s xs r d is =
    ap (option_map shows) is ∙ last_shown shows None xs
    ∙ ap (last_or None) (shown_all shows s d.1.0 d.0 xs d.1.1 d.1.2)

-- of the last document
pub last_place-last : (p : Option Place) (o : Option Stored) (ds : List Stored)
    → last_place (place_or p o) ds ≡ place_or p (last_or o ds)
last_place-last p o [] = refl
last_place-last p o (d ∷ ds) = last_place-last p (Some d) ds

pub last_found : (documents : Documents) (place : Option Place) (n : ℕ) (ds : List Stored)
    (r : Option Stored) → ds ≡ since documents place n → r ≡ last_or None ds
    → last_place place (since documents place n) ≡ place_or place r
last_found documents place n ds r page last =
    last_place-last place None (since documents place n)
    ∙ ap (λ (ds : List Stored). place_or place (last_or None ds)) (sym page)
    ∙ ap (place_or place) (sym last)

module _ (m : Documents) (by_key : AreByKey m) (p : Option Place) (n : ℕ) where
  since_held : (d : Stored) → Member d (since m p n) → named m d.state.key ≡ Some d
  since_held d h =
      (page_held m by_key (stands_above p) n d
      (subst (λ (ds : List Stored). Member d ds) (since-page m by_key p n) h)).0

  module _ (P : Option Place → Type 0) (first : P p)
      (each : (d : Stored) → named m d.state.key ≡ Some d → P (Some (place_of d))) where
    last_by : (ds : List Stored) (q : Option Place)
        → ((d : Stored) → Member d ds → named m d.state.key ≡ Some d)
        → ((ds ≡ []) × (q ≡ p)) ⊎ ((d : Stored) × Member d ds × (q ≡ Some (place_of d))) → P q
    last_by ds q held (inl x) = subst P (sym x.1) first
    last_by ds q held (inr x) = subst P (sym x.2) (each x.0 (held x.0 x.1))

    -- what holds of a place and of those of all documents holds of the last one above it
    pub at_last : P (last_place p (since m p n))
    at_last =
        last_by (since m p n) (last_place p (since m p n)) since_held
        (last_place_is p (since m p n))

module _ (m : Documents) (by_key : AreByKey m) (p : Option Place) (n : ℕ) where
  -- it isn't above the last place of all
  pub last_reached : Reach m p → Reach m (last_place p (since m p n))
  last_reached reach =
      at_last m by_key p n (Reach m) reach
      (λ d at. (d.state.key, d, at, up_to_itself (place_of d)))

module _ (c : Held) (lawful : IsLawful c) where
  -- each document was written at a time
  pub timed : (k : List ℕ) (d : Stored) → named c.documents k ≡ Some d → IsTimed (place_of d)
  timed k d at =
      let h = at_name (λ k d. IsHeldAt c.schema.primary k d) c.documents k d lawful.each at in
      let first : 1 ≤ d.lwt = h.written in
      let last : d.lwt ≤ 9007199254740991 = h.in_range in
      both_true (lt-ltb 0 d.lwt (omega arith)) (le-leb d.lwt 9007199254740991 last)

  -- so the last place has a write time
  pub last_timed : (p : Option Place) (n : ℕ) → IfSome p IsTimed
      → IfSome (last_place p (since c.documents p n)) IsTimed
  last_timed p n has =
      at_last c.documents (lawful-by_key c lawful) p n (λ q. IfSome q IsTimed) has
      (λ d at. timed d.state.key d at)
