-- A change of states: equal states stay equal, and places stay.
use Rattle.std.proofs.Common.{◌≡◌, ℕ, true, false, cond, List, [], ◌∷◌, map, Option, Some, None, option_map, refl, sym, ap, ◌∙◌, subst}
use Rattle.std.specs.List.{AllByRecursion}
use Rattle.std.specs.List.Sorted.{IsStrictlySortedBy}
use Rattle.std.specs.Map.{keys_of}
use Rattle.std.specs.Str.{bytes_eq}
use Rattle.rx_value.specs.Named.{named}
use Rattle.rx_value.specs.Order.{text_cmp}
use Rattle.rx_value.specs.declared.state.State.{State}
use Rattle.rx_document.specs.Documents.{Documents}
use Rattle.rx_document.specs.declared.place.Place.{Place}
use Rattle.rx_document.specs.declared.stored.Stored.{Stored}
use Rattle.rx_collection.specs.Since.{place_of}
use Rattle.rx_collection.proofs.Migrated.{WasThere, was_there}
use Rattle.rx_replication.specs.Changed.{changed_document, changed_documents, changed_known}
use Rattle.rx_replication.specs.Known.{KnownStates}
use Rattle.rx_replication.specs.Sound.{IsSoundSide, Reach}
use Rattle.rx_replication.specs.Write.{is_up_to, AreByKey}

-- ---- things by name, of which each is changed

module _ {X Y : Type 0} (f : X → Y) where
  pub named-map : (es : List (List ℕ × X)) (k : List ℕ)
      → named (map (λ (e : List ℕ × X). (e.0, f e.1)) es) k ≡ option_map f (named es k)
  named-map [] k = refl
  named-map (e ∷ es) k =
      elim (bytes_eq k e.0) as (λ b.
      cond b (Some (f e.1)) (named (map (λ (e : List ℕ × X). (e.0, f e.1)) es) k)
      ≡ option_map f (cond b (Some e.1) (named es k)))
      [ true ↦ refl | false ↦ named-map es k ]

  keys-map : (es : List (List ℕ × X))
      → keys_of (map (λ (e : List ℕ × X). (e.0, f e.1)) es) ≡ keys_of es
  keys-map [] = refl
  keys-map (e ∷ es) = ap (λ ks. e.0 ∷ ks) (keys-map es)

  -- one that is there was there before
  pub named_was : (es : List (List ℕ × X)) (k : List ℕ) (y : Y)
      → named (map (λ (e : List ℕ × X). (e.0, f e.1)) es) k ≡ Some y → WasThere f (named es k) y
  named_was es k y at = was_there f (named es k) y (sym (named-map es k) ∙ at)

-- ---- a side

module _ (change : State → State) (keeps : (s : State) → (change s).key ≡ s.key) where
  place_stays : (d : Stored) → place_of (changed_document change d) ≡ place_of d
  place_stays d = ap (λ (k : List ℕ). record { lwt = d.lwt; id = k }) (keeps d.state)

  keyed_then : (es : Documents) → AllByRecursion (λ e. e.1.state.key ≡ e.0) es
      → AllByRecursion (λ (e : List ℕ × Stored). e.1.state.key ≡ e.0) (changed_documents change es)
  keyed_then [] all = tt
  keyed_then (e ∷ es) all = (keeps e.1.state ∙ all.0, keyed_then es all.1)

  pub changed-by_key : (es : Documents) → AreByKey es → AreByKey (changed_documents change es)
  changed-by_key es by_key = record {
    rising =
        subst (IsStrictlySortedBy text_cmp) (sym (keys-map (changed_document change) es))
        by_key.rising;
    keyed = keyed_then es by_key.keyed;
  }

  reach_then : (es : Documents) (p : Option Place) → Reach es p
      → Reach (changed_documents change es) p
  reach_then es None r = tt
  reach_then es (Some p) r = (
    r.0,
    changed_document change r.1,
    named-map (changed_document change) es r.0 ∙ ap (option_map (changed_document change)) r.2,
    ap (λ q. is_up_to p (Some q)) (place_stays r.1) ∙ r.3,
  )

  -- it stays sound
  pub changed_side : (es : Documents) (known : KnownStates) (p : Option Place)
      → IsSoundSide es known p
      → IsSoundSide (changed_documents change es) (changed_known change known) p
  changed_side es known p sound = record {
    settled = λ k d at up.
        let was = named_was (changed_document change) es k d at in
        let place : place_of d ≡ place_of was.x =
        ap place_of (sym was.made) ∙ place_stays was.x in
        named-map change known k
        ∙ ap (option_map change)
        (sound.settled k was.x was.there (sym (ap (λ q. is_up_to q p) place) ∙ up))
        ∙ ap (λ (x : Stored). Some x.state) was.made;
    holds = λ k s at.
        let was = named_was change known k s at in
        let d = sound.holds k was.x was.there in (
          changed_document change d.0,
          named-map (changed_document change) es k
              ∙ ap (option_map (changed_document change)) d.1,
        );
    reached = reach_then es p sound.reached;
  }
