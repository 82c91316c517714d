-- The fields of documents stay valid, and the names of collections distinct.
use Rattle.std.proofs.Common.{◌≡◌, ℕ, ◌==◌, true, List, [], ◌∷◌, Option, Some, None, IfSome, option_map, refl, sym, subst}
use Rattle.std.proofs.lemmas.Bool.{and_parts}
use Rattle.std.specs.List.{AllByRecursion, IsDistinct, list_all}
use Rattle.std.specs.Map.{keys_of}
use Rattle.std.specs.Option.{option_map_or}
use Rattle.std.specs.Str.{bytes_eq}
use Rattle.rx_value.specs.Named.{named}
use Rattle.rx_value.specs.declared.state.State.{State}
use Rattle.rx_schema.specs.Validity.{first_fault}
use Rattle.rx_schema.specs.declared.shape.Shape.{Shape}
use Rattle.rx_document.specs.declared.place.Place.{Place}
use Rattle.rx_collection.specs.Commit.{next_height, with_row, with_rows}
use Rattle.rx_collection.specs.Held.{Held, held_with}
use Rattle.rx_collection.proofs.Named.{at_name, all_put}
use Rattle.rx_record.specs.Content.{Content, collection, rows, replication, exchange, migration}
use Rattle.rx_record.specs.declared.record.RowOut.{RowOut}
use Rattle.rx_world.specs.Migrating.{is_in_group}
use Rattle.rx_world.specs.Schema.{schema_in}
use Rattle.rx_world.specs.Step.{is_valid_state, is_next_row, takes, legal, step, collections_after, stored_of, stored_rows, written_to}
use Rattle.rx_world.specs.Touch.{IsNoMigration, no_collection, new_where, fork_rows, remade_where}
use Rattle.rx_world.specs.Valid.{AreValid, AllValid, AreDistinct}
use Rattle.rx_world.specs.World.{World, empty}
use Rattle.rx_world.specs.declared.replication.Replication.{Replication}
use Rattle.rx_world.proofs.Looked.{all_put_named, all_change_named, distinct_put_named, keys-change_named}
use Rattle.rx_world.proofs.Migrates.{names_after}
use Rattle.rx_world.proofs.States.{state_valid}
use Rattle.rx_world.proofs.Steps.{rows_go, rows_names, exchange_goes, fork_rows_taken}
use Rattle.rx_world.proofs.Turns.{takes_parts}

-- ---- a collection

-- the fields of each row are valid
abbrev RowsAreValid : Shape → List RowOut → Type 0
RowsAreValid s written = AllByRecursion (λ row. first_fault s row.state.fields ≡ None) written

-- those of rows that are due are so
due_valid : (c : Held) (written : List RowOut) → list_all (is_next_row c) written ≡ true
    → RowsAreValid c.schema written
due_valid c [] due = tt
due_valid c (r ∷ rs) due =
    let next = next_height (named c.documents r.state.key) in
    let both = and_parts (is_next_row c r) (list_all (is_next_row c) rs) due in
    let here = and_parts (is_valid_state c.schema r.state) (r.height == next) both.0 in
    (state_valid c.schema r.state here.0, due_valid c rs both.1)

-- valid rows leave valid documents
valid_rows : (c : Held) (name : List ℕ) (lwt : ℕ) (written : List RowOut) → AreValid c
    → RowsAreValid c.schema written → AreValid (with_rows c (stored_rows name lwt written))
valid_rows c name lwt [] valid each = valid
valid_rows c name lwt (r ∷ rs) valid each =
    let row = stored_of name lwt r in
    valid_rows (with_row c row) name lwt rs
    (all_put (λ k d. first_fault c.schema d.state.fields ≡ None) c.documents r.state.key row each.0
    valid) each.1

-- so do rows that the collection takes
pub valid_taken : (lwt : ℕ) (written : List RowOut) (c : Held) → takes lwt written c ≡ true
    → AreValid c → AreValid (written_to lwt written c)
valid_taken lwt written c is valid =
    valid_rows c c.name lwt written valid (due_valid c written (takes_parts lwt written c is).due)

-- ---- a world

-- a collection of a valid world is valid
pub valid_at : (w : World) (name : List ℕ) (c : Held) → AllValid w
    → named w.collections name ≡ Some c → AreValid c
valid_at w name c valid at = at_name (λ k x. AreValid x) w.collections name c valid at

-- the same of what a call lends
pub valid_found : {A : Type 0} (held : A → Held) (w : World) (name : List ℕ) (o : Option A)
    → AllValid w → option_map held o ≡ named w.collections name → IfSome o (λ a. AreValid (held a))
valid_found held w name None valid at = tt
valid_found held w name (Some a) valid at = valid_at w name (held a) valid (sym at)

-- so does the fork of a legal exchange
fork_valid : (name : List ℕ) (lwt : ℕ) (written : List RowOut) (known : List State)
    (up down : Option Place) (w : World)
    → legal (exchange name lwt written known up down) w ≡ true → AllValid w
    → (o : Option Replication) → named w.replications name ≡ o
    → AllByRecursion (λ e. AreValid e.1)
    (collections_after (option_map_or (fork_rows lwt written) o no_collection) w.collections)
fork_valid name lwt written known up down w is valid None at = valid
fork_valid name lwt [] known up down w is valid (Some r) at = valid
fork_valid name lwt (row ∷ written) known up down w is valid (Some r) at =
    all_change_named (λ k x. AreValid x) w.collections r.fork (written_to lwt (row ∷ written))
    (λ c there here. valid_taken lwt (row ∷ written) c
    (fork_rows_taken lwt row written known c
    (exchange_goes name lwt (row ∷ written) known up down w is r at c there)) here)
    valid

-- a legal record that is no migration leaves a valid world
pub valid_step : (entry : Content) (w : World) → legal entry w ≡ true
    → IsNoMigration entry → AllValid w
    → AllValid (step entry w)
valid_step (collection name schema) w is other valid =
    elim (schema_in schema) as (λ o. AllByRecursion (λ e. AreValid e.1)
    (collections_after (new_where name o) w.collections)) [
      | None ↦ valid
      | Some s ↦ all_put_named (λ k x. AreValid x) w.collections name (held_with name s []) tt valid
    ]
valid_step (rows name lwt written) w is other valid =
    all_change_named (λ k x. AreValid x) w.collections name (written_to lwt written)
    (λ c at here.
    let to = rows_go name lwt written w is in
    let same : to.held ≡ c = let there = to.named in cc in
    valid_taken lwt written c (subst (λ x. takes lwt written x ≡ true) same to.taken) here) valid
valid_step (replication name fork master handler field) w is other valid = valid
valid_step (exchange name lwt written known up down) w is other valid =
    fork_valid name lwt written known up down w is valid (named w.replications name) refl
valid_step (migration name text steps) w is other valid = absurd other
valid_step entry w is other valid = valid

-- ---- names

-- no name comes twice in the empty world
pub distinct_empty : AreDistinct empty
unfolding IsDistinct
distinct_empty = tt

-- the rows of a fork leave the names
fork_distinct : (lwt : ℕ) (written : List RowOut) (w : World) → AreDistinct w
    → (o : Option Replication)
    → IsDistinct bytes_eq (keys_of
    (collections_after (option_map_or (fork_rows lwt written) o no_collection) w.collections))
fork_distinct lwt written w distinct None = distinct
fork_distinct lwt [] w distinct (Some r) = distinct
fork_distinct lwt (row ∷ written) w distinct (Some r) =
    subst (IsDistinct bytes_eq)
    (sym (keys-change_named (written_to lwt (row ∷ written)) w.collections r.fork)) distinct

-- a record leaves names that come once
pub distinct_step : (entry : Content) (w : World) → AreDistinct w → AreDistinct (step entry w)
distinct_step (collection name schema) w distinct =
    elim (schema_in schema)
    as (λ o. IsDistinct bytes_eq (keys_of (collections_after (new_where name o) w.collections))) [
      | None ↦ distinct
      | Some s ↦ distinct_put_named w.collections name (held_with name s []) distinct
    ]
distinct_step (rows name lwt written) w distinct =
    subst (IsDistinct bytes_eq) (sym (rows_names name lwt written w)) distinct
distinct_step (replication name fork master handler field) w distinct = distinct
distinct_step (exchange name lwt written known up down) w distinct =
    fork_distinct lwt written w distinct (named w.replications name)
distinct_step (migration name text steps) w distinct =
    let G = is_in_group w.replications name in
    elim (schema_in text) as (λ o.
    IsDistinct bytes_eq (keys_of (collections_after (remade_where G steps o) w.collections))) [
      | None ↦ distinct
      | Some s ↦ subst (IsDistinct bytes_eq) (sym (names_after s steps G w.collections)) distinct
    ]
distinct_step other w distinct = distinct
