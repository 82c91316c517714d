-- Indexes one after another.
use Rattle.std.proofs.Common.{◌≡◌, ℕ, zero, suc, ◌+◌, ◌<◌, List, [], ◌∷◌, ◌++◌, length, get_or, map, Option, Some, None, IfSome, sym, ap, ◌∙◌, subst, arith, add-one}
use Rattle.std.proofs.Math.ListN.{set}
use Rattle.std.proofs.lemmas.List.{map-append, length-map}
use Rattle.std.specs.List.{AllByRecursion}
use Rattle.rx_value.specs.Named.{named}
use Rattle.rx_value.proofs.Lists.{all_push}
use Rattle.rx_document.specs.declared.stored.Stored.{Stored}
use Rattle.rx_collection.proofs.Lawful.{lawful_put}
use Rattle.rx_collection.proofs.Named.{at_name}
use Rattle.rx_collection.specs.Commit.{IsNext, with_row}
use Rattle.rx_collection.specs.Held.{Held}
use Rattle.rx_collection.specs.Lawful.{IsHeldAt, IsLawful}
use Rattle.rx_index.specs.Index.{Indexed, Holds, Replaces}
use Rattle.rx_observe.specs.Indexes.{IsIndexOf, AreIndexesOf}

-- of the first n one thing holds, and of the others another
abbrev pub Until : {X : Type 0} → (X → Type 0) → (X → Type 0) → ℕ → List X → Type 0
Until P Q zero xs = AllByRecursion Q xs
Until P Q (suc n) [] = Unit {0}
Until P Q (suc n) (x ∷ xs) = P x × Until P Q n xs

module _ {X : Type 0} (P Q : X → Type 0) where
  -- the other one holds of the next
  pub until_at : (i : ℕ) (xs : List X) (d : X) → Until P Q i xs → i < length xs → Q (get_or xs i d)
  until_at i [] d all h = absurd (omega arith)
  until_at zero (x ∷ xs) d all h = all.0
  until_at (suc i) (x ∷ xs) d all h = until_at i xs d all.1 (omega arith)

  until_set : (i : ℕ) (xs : List X) (y : X) → Until P Q i xs → P y
      → Until P Q (suc i) (set xs i y)
  until_set i [] y all here = tt
  until_set zero (x ∷ xs) y all here = (here, all.1)
  until_set (suc i) (x ∷ xs) y all here = (all.0, until_set i xs y all.1 here)

  -- it is one step more with another in its place
  pub until_step : (i : ℕ) (xs : List X) (y : X) → Until P Q i xs → P y
      → Until P Q (i + 1) (set xs i y)
  until_step i xs y all here =
      subst (λ n. Until P Q n (set xs i y)) (sym (add-one i)) (until_set i xs y all here)

  until_length : (xs : List X) → Until P Q (length xs) xs → AllByRecursion P xs
  until_length [] all = tt
  until_length (x ∷ xs) all = (all.0, until_length xs all.1)

  -- and holds of all at the end
  pub until_end : (i : ℕ) (xs : List X) → Until P Q i xs → i ≡ length xs → AllByRecursion P xs
  until_end i xs all end = until_length xs (subst (λ n. Until P Q n xs) end all)

-- with equal fields, there are as many
pub as_many : (indexes now : List Indexed)
    → map (λ i. i.fields) now ≡ map (λ i. i.fields) indexes → length now ≡ length indexes
as_many indexes now same =
    sym (length-map now (λ i. i.fields)) ∙ ap length same ∙ length-map indexes (λ i. i.fields)

-- ---- made one after another

-- those so far have these fields, and each holds the documents
pub record AreMade (c : Held) (fields : List (List (List ℕ))) (indexes : List Indexed)
    : Type 0 where
  pub fields_are : map (λ i. i.fields) indexes ≡ fields
  pub held : AllByRecursion (λ i. Holds i c.documents) indexes

module _ (c : Held) where
  pub one_more : (fields : List (List (List ℕ))) (of : List (List ℕ)) (indexes now : List Indexed)
      (i : Indexed) → AreMade c fields indexes → IsIndexOf c of i → now ≡ indexes ++ i ∷ []
      → AreMade c (fields ++ of ∷ []) now
  one_more fields of indexes now i made is now_is =
      subst (AreMade c (fields ++ of ∷ [])) (sym now_is) (record {
        fields_are = map-append (λ i. i.fields) indexes (i ∷ [])
            ∙ ap (λ fs. fs ++ i.fields ∷ []) made.fields_are
            ∙ ap (λ f. fields ++ f ∷ []) is.fields_are;
        held = all_push (λ i. Holds i c.documents) indexes i made.held is.held;
      })

-- ---- each with a row

module _ (c : Held) (row : Stored) (next : IsNext c row) (lawful : IsLawful c) where
  -- the document that goes has the row's key
  keyed_old : (old : Option Stored) → old ≡ named c.documents row.state.key
      → IfSome old (λ d. d.state.key ≡ row.state.key)
  keyed_old None is = tt
  keyed_old (Some d) is =
      (at_name (IsHeldAt c.schema.primary) c.documents row.state.key d lawful.each (sym is)).keyed

  -- before the row an index holds the documents of the collection, and after it those with the row
  abbrev pub Before : Indexed → Type 0
  Before i = Holds i c.documents

  abbrev pub After : Indexed → Type 0
  After i = Holds i (with_row c row).documents

  pub replaces : (old : Option Stored) → old ≡ named c.documents row.state.key → (i : Indexed)
      → Before i → Replaces i c.documents old row
  replaces old is i held =
      record { held = held; old_one = sym is; keyed = keyed_old old is }

  -- so all of them do
  pub all_put : (indexes now : List Indexed) → AreIndexesOf c indexes
      → map (λ i. i.fields) now ≡ map (λ i. i.fields) indexes → AllByRecursion After now
      → AreIndexesOf (with_row c row) now
  all_put indexes now are fields held = record {
    lawful = lawful_put c row lawful next;
    fields = fields ∙ are.fields;
    held = held;
  }
