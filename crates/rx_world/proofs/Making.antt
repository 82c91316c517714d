-- Records make worlds of which all holds that holds of made ones.
use Rattle.std.proofs.Common.{◌≡◌, ℕ, true, List, [], ◌∷◌, Option, Some, None, refl, ◌∙◌, subst}
use Rattle.std.specs.List.{AllByRecursion}
use Rattle.std.specs.Option.{option_map_or}
use Rattle.rx_value.specs.Named.{named}
use Rattle.rx_value.specs.declared.state.State.{State}
use Rattle.rx_document.specs.declared.place.Place.{Place}
use Rattle.rx_collection.specs.Held.{held_with}
use Rattle.rx_record.specs.Content.{Content, collection, rows, replication, exchange, epoch, migration, part, known_part, end}
use Rattle.rx_record.specs.Writable.{IsOrdered, KeysRise}
use Rattle.rx_record.specs.declared.record.RowOut.{RowOut}
use Rattle.rx_world.specs.Lawful.{IsLawfulAt, IsLawfulWorld}
use Rattle.rx_world.specs.Made.{IsMadeWorld}
use Rattle.rx_world.specs.Schema.{schema_in}
use Rattle.rx_world.specs.Step.{legal, step, takes, collections_after, stored_rows, written_to}
use Rattle.rx_world.specs.Touch.{IsNoMigration, no_collection, new_where, fork_rows}
use Rattle.rx_world.specs.World.{World, empty, max_collections, max_replications}
use Rattle.rx_world.specs.declared.replication.Replication.{Replication}
use Rattle.rx_collection.specs.Held.{Held}
use Rattle.rx_world.proofs.Trees.{forest_step}
use Rattle.rx_world.proofs.Links.{linked_empty, linked_step, spelled_step}
use Rattle.rx_world.proofs.Looked.{all_put_named, all_change_named}
use Rattle.rx_world.proofs.Called.{names_none, collections_named, replications_named}
use Rattle.rx_world.proofs.Migrates.{keeps_made}
use Rattle.rx_world.proofs.Steps.{rows_go, exchange_goes, fork_rows_taken}
use Rattle.rx_world.proofs.Turns.{lawful_new, lawful_rows, taken_are_next, with_rows-name}
use Rattle.rx_world.proofs.Valid.{valid_step, distinct_empty, distinct_step}

-- rows that a collection takes leave it lawful
lawful_taken : (name : List ℕ) (lwt : ℕ) (written : List RowOut) (c : Held) → KeysRise written
    → takes lwt written c ≡ true → IsLawfulAt name c → IsLawfulAt name (written_to lwt written c)
lawful_taken name lwt written c rise is at = record {
  called = with_rows-name c (stored_rows c.name lwt written) ∙ at.called;
  lawful = lawful_rows c (stored_rows c.name lwt written) at.lawful
      (taken_are_next c lwt written at.lawful is rise);
}

lawful_fork : (name : List ℕ) (lwt : ℕ) (written : List RowOut) (known : List State)
    (up down : Option Place) (w : World)
    → legal (exchange name lwt written known up down) w ≡ true → KeysRise written → IsLawfulWorld w
    → (o : Option Replication) → named w.replications name ≡ o
    → AllByRecursion (λ e. IsLawfulAt e.0 e.1)
    (collections_after (option_map_or (fork_rows lwt written) o no_collection) w.collections)
lawful_fork name lwt written known up down w is rise lawful None at = lawful
lawful_fork name lwt [] known up down w is rise lawful (Some r) at = lawful
lawful_fork name lwt (row ∷ written) known up down w is rise lawful (Some r) at =
    all_change_named IsLawfulAt w.collections r.fork (written_to lwt (row ∷ written))
    (λ c there here. lawful_taken r.fork lwt (row ∷ written) c rise
    (fork_rows_taken lwt row written known c
    (exchange_goes name lwt (row ∷ written) known up down w is r at c there)) here)
    lawful

-- a legal record in order that is no migration leaves lawful collections
pub lawful_step : (entry : Content) (w : World) → legal entry w ≡ true → IsNoMigration entry
    → IsOrdered entry → IsLawfulWorld w
    → IsLawfulWorld (step entry w)
lawful_step (collection name schema) w is other ordered lawful =
    elim (schema_in schema) as (λ o. AllByRecursion (λ e. IsLawfulAt e.0 e.1)
    (collections_after (new_where name o) w.collections)) [
      | None ↦ lawful
      | Some s ↦ all_put_named IsLawfulAt w.collections name (held_with name s [])
          (record { called = refl; lawful = lawful_new name s }) lawful
    ]
lawful_step (rows name lwt written) w is other ordered lawful =
    all_change_named IsLawfulAt w.collections name (written_to lwt written)
    (λ c at here.
    let to = rows_go name lwt written w is in
    let same : to.held ≡ c = let there = to.named in cc in
    lawful_taken name lwt written c ordered
    (subst (λ x. takes lwt written x ≡ true) same to.taken) here) lawful
lawful_step (replication name fork master handler field) w is other ordered lawful = lawful
lawful_step (exchange name lwt written known up down) w is other ordered lawful =
    lawful_fork name lwt written known up down w is ordered.rows_rise lawful
    (named w.replications name) refl
lawful_step (migration name text steps) w is other ordered lawful = absurd other
lawful_step entry w is other ordered lawful = lawful

-- ---- worlds that records made

pub made_empty : IsMadeWorld empty
made_empty = record {
  lawful = tt;
  valid = tt;
  spelled = tt;
  distinct = distinct_empty;
  linked = linked_empty;
  forest = refl;
  collection_names = names_none max_collections;
  replication_names = names_none max_replications;
}

-- a legal record in order that is no migration makes one of one
made_other : (entry : Content) → IsNoMigration entry → (w : World) → legal entry w ≡ true
    → IsOrdered entry → IsMadeWorld w → IsMadeWorld (step entry w)
made_other entry other w is ordered made = record {
  lawful = lawful_step entry w is other ordered made.lawful;
  valid = valid_step entry w is other made.valid;
  spelled = spelled_step entry w is other made.spelled;
  distinct = distinct_step entry w made.distinct;
  linked = linked_step entry w is other ordered made.spelled made.forest made.linked;
  forest = forest_step entry w is other made.forest;
  collection_names = collections_named entry w is other made.collection_names;
  replication_names = replications_named entry w is other made.replication_names;
}

-- so does each legal one
pub made_step : (entry : Content) (w : World) → legal entry w ≡ true → IsOrdered entry
    → IsMadeWorld w
    → IsMadeWorld (step entry w)
made_step (collection name schema) = made_other (collection name schema) tt
made_step (rows name lwt written) = made_other (rows name lwt written) tt
made_step (replication name fork master handler field) =
    made_other (replication name fork master handler field) tt
made_step (exchange name lwt written known up down) =
    made_other (exchange name lwt written known up down) tt
made_step (epoch number) = made_other (epoch number) tt
made_step (migration name text steps) = λ w is ordered made. keeps_made name text steps w is made
made_step (part name written) = made_other (part name written) tt
made_step (known_part name known up down) = made_other (known_part name known up down) tt
made_step (end number) = made_other (end number) tt
