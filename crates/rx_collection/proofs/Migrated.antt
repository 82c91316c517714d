-- A collection is whole after the steps of a migration.
use Rattle.std.proofs.Common.{◌≡◌, ℕ, zero, suc, List, [], ◌∷◌, ◌++◌, map, length, set, take, drop, Option, Some, None, option_map, slice_get, refl, sym, ap, ◌∙◌, subst}
use Rattle.std.proofs.lemmas.List.{length-map}
use Rattle.std.proofs.lemmas.Option.{slice_get-map, slice_get_within}
use Rattle.std.specs.List.{AllByRecursion}
use Rattle.std.specs.List.Sorted.{IsStrictlySortedBy}
use Rattle.std.specs.Map.{keys_of}
use Rattle.std.specs.Option.{unwrap_or}
use Rattle.rx_value.specs.Named.{named}
use Rattle.rx_value.specs.Order.{text_cmp}
use Rattle.rx_value.specs.declared.state.State.{State}
use Rattle.rx_value.proofs.Outcomes.{not_none, some_same}
use Rattle.rx_document.specs.Documents.{Documents}
use Rattle.rx_document.specs.Place.{place_cmp}
use Rattle.rx_document.specs.declared.stored.Stored.{Stored}
use Rattle.rx_migrate.specs.Migrated.{migrated}
use Rattle.rx_migrate.specs.declared.step.Step.{Step}
use Rattle.rx_migrate.proofs.Laws.{key}
use Rattle.rx_runs.specs.Rows.{shown, with_value, AllUnder}
use Rattle.rx_schema.specs.declared.shape.Shape.{Shape}
use Rattle.rx_collection.specs.Lawful.{IsHeldAt, IsLawful}
use Rattle.rx_collection.specs.Held.{held_with}
use Rattle.rx_collection.specs.Hints.{AreKnown, IsPlaced}
use Rattle.rx_collection.specs.declared.hints.Hints.{Hints}
use Rattle.rx_collection.specs.Log.{IsLog, IsLogged, IsWhole, IsWrite, places, with_place}
use Rattle.rx_collection.specs.Migrated.{CarryAfter, documents_after, state_after, stored_after}

-- one that is there was there before
pub record WasThere {X Y : Type 0} (g : X → Y) (o : Option X) (y : Y) : Type 0 where
  pub x : X
  pub there : o ≡ Some x
  pub made : g x ≡ y

pub was_there : {X Y : Type 0} (g : X → Y) (o : Option X) (y : Y) → option_map g o ≡ Some y
    → WasThere g o y
was_there g None y at = not_none at
was_there g (Some x) y at = record { x = x; there = refl; made = some_same at }

-- a row more is after the steps, of rows from the front on
pub row_turn : (g : Stored → Stored) (rows : List Stored) (s : ℕ) (d : Stored)
    → slice_get rows s ≡ Some d
    → take (suc s) (set rows s (g d)) ++ map g (drop (suc s) (set rows s (g d)))
    ≡ take s rows ++ map g (drop s rows)
row_turn g [] s d at = not_none at
row_turn g (r ∷ rows) zero d at = ap (λ x. g x ∷ map g rows) (sym (some_same at))
row_turn g (r ∷ rows) (suc s) d at = ap (λ ds. r ∷ ds) (row_turn g rows s d at)

pub length_set : (rows : List Stored) (s : ℕ) (d : Stored) → length (set rows s d) ≡ length rows
length_set [] s d = refl
length_set (r ∷ rows) zero d = refl
length_set (r ∷ rows) (suc s) d = ap suc (length_set rows s d)

-- a row that was put in the place of one put there
pub set_twice : (rows : List Stored) (s : ℕ) (d e : Stored)
    → set (set rows s d) s e ≡ set rows s e
set_twice [] s d e = refl
set_twice (r ∷ rows) zero d e = refl
set_twice (r ∷ rows) (suc s) d e = ap (λ ds. r ∷ ds) (set_twice rows s d e)

module _ (steps : List Step) where
  -- the key stays
  pub key_after : (x : State) → (state_after steps x).key ≡ x.key
  key_after x =
      elim (migrated steps x) as (λ o. migrated steps x ≡ o → (unwrap_or o x).key ≡ x.key)
      [ None ↦ (λ at. refl) | Some t ↦ (λ at. key steps x t at) ] refl

  -- ---- rows

  pub shown_after : (rows : List Stored) (names : List (List ℕ × ℕ))
      → shown (map (stored_after steps) rows) names ≡ documents_after steps (shown rows names)
  shown_after rows [] = refl
  shown_after rows (e ∷ names) =
      ap (λ es. with_value e.0 (slice_get (map (stored_after steps) rows) e.1) es)
      (shown_after rows names)
      ∙ ap (λ o. with_value e.0 o (documents_after steps (shown rows names)))
      (slice_get-map (stored_after steps) rows e.1)
      ∙ (elim (slice_get rows e.1) as (λ o.
      with_value e.0 (option_map (stored_after steps) o) (documents_after steps (shown rows names))
      ≡ documents_after steps (with_value e.0 o (shown rows names))) [
        | None ↦ refl
        | Some d ↦ refl
      ])

  places_after : (rows : List Stored) (log : List (ℕ × ℕ))
      → places (map (stored_after steps) rows) log ≡ places rows log
  places_after rows [] = refl
  places_after rows (l ∷ log) =
      ap (λ ps. with_place l.0 (slice_get (map (stored_after steps) rows) l.1) ps)
      (places_after rows log)
      ∙ ap (λ o. with_place l.0 o (places rows log)) (slice_get-map (stored_after steps) rows l.1)
      ∙ (elim (slice_get rows l.1)
      as (λ o. with_place l.0 (option_map (stored_after steps) o) (places rows log)
      ≡ with_place l.0 o (places rows log)) [
        | None ↦ refl
        | Some d ↦
            ap (λ (k : List ℕ). record { lwt = l.0; id = k } ∷ places rows log) (key_after d.state)
      ])

  writes_after : (rows : List Stored) (log : List (ℕ × ℕ)) → AllByRecursion (IsWrite rows) log
      → AllByRecursion (IsWrite (map (stored_after steps) rows)) log
  writes_after rows [] all = tt
  writes_after rows (l ∷ log) all = (
    record {
      row = stored_after steps all.0.row;
      there = slice_get-map (stored_after steps) rows l.1
          ∙ ap (option_map (stored_after steps)) all.0.there;
      no_later = all.0.no_later;
    },
    writes_after rows log all.1,
  )

  row_was : (rows : List Stored) (s : ℕ) (d : Stored)
      → slice_get (map (stored_after steps) rows) s ≡ Some d
      → WasThere (stored_after steps) (slice_get rows s) d
  row_was rows s d at =
      was_there (stored_after steps) (slice_get rows s) d
      (sym (slice_get-map (stored_after steps) rows s) ∙ at)

  log_after : (rows : List Stored) (names log : _) → IsLog rows names log
      → IsLog (map (stored_after steps) rows) names log
  log_after rows names log logged = record {
    keyed = λ s d at.
        let was = row_was rows s d at in
        ap (named names) (sym (ap (λ (x : Stored). x.state.key) was.made) ∙ key_after was.x.state)
        ∙ logged.keyed s was.x was.there;
    each = writes_after rows log logged.each;
    complete = λ s d at.
        let was = row_was rows s d at in
        subst (λ (x : Stored). IsLogged x.lwt s log) was.made (logged.complete s was.x was.there);
    rising = subst (IsStrictlySortedBy place_cmp) (sym (places_after rows log)) logged.rising;
  }

  -- the keys of slots stay, and so do their places
  pub known_after : (hints : Hints) (rows : List Stored) → AreKnown hints rows
      → AreKnown hints (map (stored_after steps) rows)
  known_after hints rows known = record {
    placed = λ whole s d lt there.
        let was = row_was rows s d there in
        subst (IsPlaced hints.places.items s)
        (sym (key_after was.x.state) ∙ ap (λ (x : Stored). x.state.key) was.made)
        (known.placed whole s was.x (slice_get_within rows s was.x was.there) was.there);
  }

  -- ---- documents

  keys_after : (es : Documents) → keys_of (documents_after steps es) ≡ keys_of es
  keys_after [] = refl
  keys_after (e ∷ es) = ap (λ ks. e.0 ∷ ks) (keys_after es)

  held_after : (schema : Shape) (primary : List ℕ) (es : Documents) → CarryAfter schema steps es
      → AllByRecursion (λ e. IsHeldAt primary e.0 e.1) es
      → AllByRecursion (λ (e : List ℕ × Stored). IsHeldAt schema.primary e.0 e.1)
      (documents_after steps es)
  held_after schema primary [] carried held = tt
  held_after schema primary (e ∷ es) carried held = (
    record {
      keyed = key_after e.1.state ∙ held.0.keyed;
      carried = carried.0;
      written = held.0.written;
      in_range = held.0.in_range;
      counted = held.0.counted;
      lower = held.0.lower;
    },
    held_after schema primary es carried.1 held.1,
  )

  pub whole_after : (name : List ℕ) (old schema : Shape) (rows : List Stored) (names log : _)
      → IsWhole name old rows names log → CarryAfter schema steps (shown rows names)
      → IsWhole name schema (map (stored_after steps) rows) names log
  whole_after name old schema rows names log whole carried = record {
    lawful =
        subst (λ (es : Documents). IsLawful (held_with name schema es))
        (sym (shown_after rows names))
        (record {
          rising = subst (IsStrictlySortedBy text_cmp)
              (sym (keys_after (shown rows names))) whole.lawful.rising;
          each = held_after schema old.primary (shown rows names) carried whole.lawful.each;
        });
    slots = record {
      rising = whole.slots.rising;
      within = subst (λ n. AllUnder n names)
          (sym (length-map rows (stored_after steps))) whole.slots.within;
      apart = whole.slots.apart;
    };
    many = length-map rows (stored_after steps) ∙ whole.many;
    logged = log_after rows names log whole.logged;
  }
