-- What a legal record does to the collections of a world.
use Rattle.std.proofs.Common.{◌≡◌, ℕ, ◌+◌, ◌<◌, ◌&&◌, Bool, true, false, List, [], ◌∷◌, length, Option, Some, None, is_some, is_none, nat_lt, refl, sym, ap, ◌∙◌, subst, true≢false, eq-eqb, ltb-true}
use Rattle.std.proofs.lemmas.Bool.{and_parts}
use Rattle.std.specs.List.{list_all}
use Rattle.std.specs.Map.{keys_of}
use Rattle.std.specs.Option.{option_map_or, ForSome}
use Rattle.rx_value.specs.Name.{is_name}
use Rattle.rx_value.specs.Named.{named}
use Rattle.rx_value.specs.declared.state.State.{State}
use Rattle.rx_value.proofs.Outcomes.{none_is, some_is}
use Rattle.rx_schema.specs.declared.shape.Shape.{Shape}
use Rattle.rx_collection.specs.Commit.{AreNext}
use Rattle.rx_collection.specs.Held.{Held}
use Rattle.rx_collection.proofs.Named.{at_name}
use Rattle.rx_document.specs.declared.place.Place.{Place}
use Rattle.rx_record.specs.Content.{collection, rows, exchange, epoch}
use Rattle.rx_record.specs.Writable.{IsOrdered, KeysRise}
use Rattle.rx_record.specs.declared.record.RowOut.{RowOut}
use Rattle.rx_world.specs.Lawful.{IsLawfulAt, IsLawfulWorld}
use Rattle.rx_world.specs.Schema.{schema_in}
use Rattle.rx_world.specs.Replicating.{stays_or_rises}
use Rattle.rx_world.specs.Step.{step, legal, takes, is_held_with, fork_takes, takes_exchange, written_to, stored_rows}
use Rattle.rx_world.specs.declared.replication.Replication.{Replication}
use Rattle.rx_world.specs.World.{World, max_collections}
use Rattle.rx_world.proofs.Looked.{keys-change_named}
use Rattle.rx_world.proofs.Turns.{taken_are_next}

-- ---- rows

-- rows that are legal go to a collection that takes them
pub record GoesTo (name : List ℕ) (lwt : ℕ) (written : List RowOut) (w : World) : Type 0 where
  pub held : Held
  pub named : named w.collections name ≡ Some held
  pub taken : takes lwt written held ≡ true

pub rows_go : (name : List ℕ) (lwt : ℕ) (written : List RowOut) (w : World)
    → legal (rows name lwt written) w ≡ true → GoesTo name lwt written w
rows_go name lwt written w is =
    elim (named w.collections name) as (λ o. named w.collections name ≡ o
    → option_map_or (takes lwt written) o false ≡ true → GoesTo name lwt written w) [
      | None ↦ (λ at is. absurd (true≢false (sym is)))
      | Some c ↦ (λ at is. record { held = c; named = at; taken = is })
    ] refl is

-- so do those of an exchange, if there is one, to the fork, which then holds the known keys
pub exchange_goes : (name : List ℕ) (lwt : ℕ) (written : List RowOut) (known : List State)
    (up down : Option Place) (w : World)
    → legal (exchange name lwt written known up down) w ≡ true
    → (r : Replication) → named w.replications name ≡ Some r
    → (c : Held) → named w.collections r.fork ≡ Some c → fork_takes lwt written known c ≡ true
exchange_goes name lwt written known up down w is r at c there =
    let takes_it : Replication → Bool = takes_exchange w.collections lwt written known up down in
    let here : takes_it r ≡ true = sym (ap (λ o. option_map_or takes_it o false) at) ∙ is in
    let last = (and_parts (stays_or_rises r.side.up up && stays_or_rises r.side.down down)
    (option_map_or (fork_takes lwt written known) (named w.collections r.fork) false) here).1 in
    sym (ap (λ o. option_map_or (fork_takes lwt written known) o false) there) ∙ last

pub fork_rows_taken : (lwt : ℕ) (row : RowOut) (written : List RowOut)
    (known : List State) (c : Held)
    → fork_takes lwt (row ∷ written) known c ≡ true → takes lwt (row ∷ written) c ≡ true
fork_rows_taken lwt row written known c is =
    (and_parts (takes lwt (row ∷ written) c) (list_all (is_held_with c (row ∷ written)) known) is).0

-- they leave the names
pub rows_names : (name : List ℕ) (lwt : ℕ) (written : List RowOut) (w : World)
    → keys_of (step (rows name lwt written) w).collections ≡ keys_of w.collections
rows_names name lwt written w = keys-change_named (written_to lwt written) w.collections name

-- ---- a new collection

-- what is legal of a new collection
pub record IsNew (name schema : List ℕ) (w : World) : Type 0 where
  pub shape : Shape
  pub read : schema_in schema ≡ Some shape
  pub unheld : named w.collections name ≡ None
  pub called : is_name name ≡ true
  pub room : length w.collections < max_collections

pub collection_new : (name schema : List ℕ) (w : World) → legal (collection name schema) w ≡ true
    → IsNew name schema w
collection_new name schema w is =
    let a = is_name name in
    let b = is_none (named w.collections name) in
    let d = nat_lt (length w.collections) max_collections in
    let e = is_some (schema_in schema) in
    let last = and_parts (a && b && d) e is in
    let third = and_parts (a && b) d last.0 in
    let two = and_parts a b third.0 in
    let s = some_is (schema_in schema) last.1 in
    record {
      shape = s.0;
      read = s.1;
      unheld = none_is (named w.collections name) two.1;
      called = two.0;
      room = ltb-true (length w.collections) max_collections third.1;
    }

-- ---- lawful worlds

-- a collection of a lawful world is so
pub lawful_at : (w : World) (name : List ℕ) (c : Held) → IsLawfulWorld w
    → named w.collections name ≡ Some c → IsLawfulAt name c
lawful_at w name c lawful at = at_name IsLawfulAt w.collections name c lawful at

-- rows that are legal may be written, one after another
pub legal_are_next : (name : List ℕ) (lwt : ℕ) (written : List RowOut) (w : World) → IsLawfulWorld w
    → legal (rows name lwt written) w ≡ true → IsOrdered (rows name lwt written)
    → ForSome (named w.collections name) (λ c. AreNext c (stored_rows c.name lwt written))
legal_are_next name lwt written w lawful is up = λ c at.
    let to = rows_go name lwt written w is in
    let same : to.held ≡ c = let there = to.named in cc in
    taken_are_next c lwt written (lawful_at w name c lawful at).lawful
    (subst (λ x. takes lwt written x ≡ true) same to.taken) up

-- ---- epochs

-- the next epoch is legal
pub epoch_legal : (w : World) → legal (epoch (w.epoch + 1)) w ≡ true
epoch_legal w = eq-eqb (w.epoch + 1) (w.epoch + 1) refl

-- ---- exchanges

-- the rows of a legal exchange may be written to the fork, one after another
pub exchange_next : (name : List ℕ) (lwt : ℕ) (written : List RowOut) (known : List State)
    (up down : Option Place) (w : World)
    → IsLawfulWorld w → legal (exchange name lwt written known up down) w ≡ true → KeysRise written
    → ForSome (named w.replications name) (λ r. ForSome (named w.collections r.fork)
    (λ c. AreNext c (stored_rows c.name lwt written)))
exchange_next name lwt [] known up down w lawful is rise = λ r at c there. tt
exchange_next name lwt (row ∷ written) known up down w lawful is rise = λ r at c there.
    taken_are_next c lwt (row ∷ written) (lawful_at w r.fork c lawful there).lawful
    (fork_rows_taken lwt row written known c
    (exchange_goes name lwt (row ∷ written) known up down w is r at c there)) rise
