-- The keys of live documents and of tombstones after a row is put.
use Rattle.std.proofs.Common.{◌≡◌, ℕ, Bool, true, false, cond, not, List, ◌∷◌, [], Some, None, Option, option_map, is_some, refl, sym, ap, ◌∙◌}
use Rattle.std.proofs.lemmas.Slice.Eq.{bytes_eq-Decides}
use Rattle.std.specs.Str.{bytes_eq}
use Rattle.rx_value.proofs.Named.{named-put_in_order}
use Rattle.rx_value.specs.Named.{named, put_in_order}
use Rattle.rx_document.specs.Documents.{Documents, live}
use Rattle.rx_document.specs.declared.stored.Stored.{Stored}
use Rattle.rx_migrate.specs.Migrated.{migrated}
use Rattle.rx_migrate.specs.declared.step.Step.{Step}
use Rattle.rx_migrate.proofs.Laws.{mark}
use Rattle.rx_value.specs.declared.state.State.{State}
use Rattle.std.specs.Option.{unwrap_or}
use Rattle.rx_runs.specs.Marked.{Marked, sides, with_mark, AreSides}
use Rattle.rx_runs.proofs.Sides.{named-without}
use Rattle.rx_collection.specs.Marks.{is_tombstone, AreMarked}
use Rattle.rx_collection.specs.Migrated.{documents_after, state_after, stored_after}

-- no documents have no keys
pub marked_none : AreMarked [] (sides [] [])
marked_none = record { plain = λ k. refl; marked = λ k. refl }

-- a document is live where it isn't deleted
live_is : (d : Stored) → is_some (live (Some d)) ≡ not d.state.deleted
live_is d =
    elim d.state.deleted as (λ b. is_some (cond b None (Some d.state.fields)) ≡ not b)
    [ true ↦ refl | false ↦ refl ]

module _ (documents : Documents) (keys : Marked) (row : Stored) (are : AreMarked documents keys)
  where
    abbrev key : List ℕ
    key = row.state.key

    -- what is said of a name is said of it after the row is put
    at_name : (f : Option Stored → Bool) (k : List ℕ) (x : Bool)
        → (bytes_eq k key ≡ true → x ≡ f (Some row))
        → (bytes_eq k key ≡ false → x ≡ f (named documents k))
        → x ≡ f (named (put_in_order documents key row) k)
    at_name f k x own others =
        (elim (bytes_eq k key)
        as (λ b. bytes_eq k key ≡ b → x ≡ f (cond b (Some row) (named documents k)))
        [ true ↦ own | false ↦ others ]) refl
        ∙ ap f (sym (named-put_in_order documents key k row))

    -- in the place of a document with its mark
    pub marked_same : (old : Stored) → named documents key ≡ Some old
        → old.state.deleted ≡ row.state.deleted → AreMarked (put_in_order documents key row) keys
    marked_same old at same =
        let found : (k : List ℕ) → bytes_eq k key ≡ true → named documents k ≡ Some old =
        λ k is. ap (named documents) ((bytes_eq-Decides k key).0 is) ∙ at in
        record {
          plain = λ k. at_name (λ o. is_some (live o)) k (is_some (named keys.plain k))
              (λ is. are.plain k ∙ ap (λ o. is_some (live o)) (found k is) ∙ live_is old
              ∙ ap not same ∙ sym (live_is row))
              (λ is. are.plain k);
          marked = λ k. at_name is_tombstone k (is_some (named keys.marked k))
              (λ is. are.marked k ∙ ap is_tombstone (found k is) ∙ same)
              (λ is. are.marked k);
        }

    -- its key's name has its mark
    pub marked_with : (slot : ℕ) (mark : Bool) → AreSides keys → row.state.deleted ≡ mark
        → AreMarked (put_in_order documents key row) (with_mark keys key slot mark)
    marked_with slot true lawful is = record {
      plain = λ k.
          ap is_some (named-without keys.plain key k lawful.plain.rising)
          ∙ at_name (λ o. is_some (live o)) k
          (is_some (cond (bytes_eq k key) None (named keys.plain k)))
          (λ here. ap (λ b. is_some (cond b None (named keys.plain k))) here
          ∙ sym (live_is row ∙ ap not is))
          (λ there. ap (λ b. is_some (cond b None (named keys.plain k))) there ∙ are.plain k);
      marked = λ k.
          ap is_some (named-put_in_order keys.marked key k slot)
          ∙ at_name is_tombstone k
          (is_some (cond (bytes_eq k key) (Some slot) (named keys.marked k)))
          (λ here. ap (λ b. is_some (cond b (Some slot) (named keys.marked k))) here ∙ sym is)
          (λ there. ap (λ b. is_some (cond b (Some slot) (named keys.marked k))) there
          ∙ are.marked k);
    }
    marked_with slot false lawful is = record {
      plain = λ k.
          ap is_some (named-put_in_order keys.plain key k slot)
          ∙ at_name (λ o. is_some (live o)) k
          (is_some (cond (bytes_eq k key) (Some slot) (named keys.plain k)))
          (λ here. ap (λ b. is_some (cond b (Some slot) (named keys.plain k))) here
          ∙ sym (live_is row ∙ ap not is))
          (λ there. ap (λ b. is_some (cond b (Some slot) (named keys.plain k))) there
          ∙ are.plain k);
      marked = λ k.
          ap is_some (named-without keys.marked key k lawful.marked.rising)
          ∙ at_name is_tombstone k
          (is_some (cond (bytes_eq k key) None (named keys.marked k)))
          (λ here. ap (λ b. is_some (cond b None (named keys.marked k))) here ∙ sym is)
          (λ there. ap (λ b. is_some (cond b None (named keys.marked k))) there ∙ are.marked k);
    }

-- ---- after the steps of a migration

module _ (steps : List Step) where
  mark_after : (x : State) → (state_after steps x).deleted ≡ x.deleted
  mark_after x =
      elim (migrated steps x) as (λ o. migrated steps x ≡ o → (unwrap_or o x).deleted ≡ x.deleted)
      [ None ↦ (λ at. refl) | Some t ↦ (λ at. mark steps x t at) ] refl

  named_after : (es : Documents) (k : List ℕ)
      → named (documents_after steps es) k ≡ option_map (stored_after steps) (named es k)
  named_after [] k = refl
  named_after (e ∷ es) k =
      ap (cond (bytes_eq k e.0) (Some (stored_after steps e.1))) (named_after es k)
      ∙ elim (bytes_eq k e.0)
      as (λ b. cond b (Some (stored_after steps e.1)) (option_map (stored_after steps) (named es k))
      ≡ option_map (stored_after steps) (cond b (Some e.1) (named es k)))
      [ true ↦ refl | false ↦ refl ]

  live_after : (o : Option Stored)
      → is_some (live o) ≡ is_some (live (option_map (stored_after steps) o))
  live_after None = refl
  live_after (Some d) =
      live_is d ∙ ap not (sym (mark_after d.state)) ∙ sym (live_is (stored_after steps d))

  tombstone_after : (o : Option Stored)
      → is_tombstone o ≡ is_tombstone (option_map (stored_after steps) o)
  tombstone_after None = refl
  tombstone_after (Some d) = sym (mark_after d.state)

  pub marked_after : (es : Documents) (keys : Marked) → AreMarked es keys
      → AreMarked (documents_after steps es) keys
  marked_after es keys are = record {
    plain = λ k. are.plain k ∙ live_after (named es k)
        ∙ ap (λ o. is_some (live o)) (sym (named_after es k));
    marked = λ k. are.marked k ∙ tombstone_after (named es k)
        ∙ ap is_tombstone (sym (named_after es k));
  }
