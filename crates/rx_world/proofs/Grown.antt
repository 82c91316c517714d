-- What a legal record leaves of a collection and of a replication.
use Rattle.std.proofs.Common.{◌≡◌, ◌≢◌, inl, inr, ℕ, Bool, true, false, cond, List, [], ◌∷◌, map, Option, Some, None, option_map, refl, sym, ap, ◌∙◌, subst, true≢false}
use Rattle.std.proofs.lemmas.Slice.Eq.{bytes_eq-Decides}
use Rattle.std.specs.Option.{option_map_or}
use Rattle.std.specs.Str.{bytes_eq}
use Rattle.rx_value.specs.Named.{named, put_named, change_named}
use Rattle.rx_value.specs.declared.state.State.{State}
use Rattle.rx_value.proofs.Outcomes.{not_none, some_same}
use Rattle.rx_document.specs.declared.place.Place.{Place}
use Rattle.rx_schema.specs.Validity.{first_fault}
use Rattle.rx_schema.specs.declared.shape.Shape.{Shape}
use Rattle.rx_collection.specs.Held.{Held, held_with}
use Rattle.rx_collection.specs.Lawful.{IsHeldAt, IsLawful}
use Rattle.rx_collection.specs.Migrated.{migrated_collection}
use Rattle.rx_collection.proofs.Named.{at_name}
use Rattle.rx_migrate.specs.declared.step.Step.{Step}
use Rattle.rx_record.specs.Content.{Content, collection, rows, replication, exchange, epoch, migration}
use Rattle.rx_record.specs.Writable.{IsOrdered, KeysRise}
use Rattle.rx_record.specs.declared.record.RowOut.{RowOut}
use Rattle.rx_replication.specs.Throughout.{DocumentsPass}
use Rattle.rx_replication.proofs.Commits.{Wrote}
use Rattle.rx_world.specs.Linked.{IsLinked}
use Rattle.rx_world.specs.Made.{IsMadeWorld}
use Rattle.rx_world.specs.Migrating.{is_in_group, migrated_entry, migrated_replication}
use Rattle.rx_world.specs.Replicating.{new_replication, with_exchange}
use Rattle.rx_world.specs.Schema.{schema_in}
use Rattle.rx_world.specs.Step.{collections_after, fork_takes, legal, step, stored_rows, takes, takes_exchange, written_to}
use Rattle.rx_world.specs.Touch.{new_where, remade_where}
use Rattle.rx_world.specs.Valid.{AreValid}
use Rattle.rx_world.specs.ValidState.{is_valid_state}
use Rattle.rx_world.specs.World.{World, Collections, Replications}
use Rattle.rx_world.specs.declared.replication.Replication.{Replication}
use Rattle.rx_world.proofs.Beginning.{begins}
use Rattle.rx_world.proofs.Links.{held_other, with_rows-schema}
use Rattle.rx_world.proofs.Looked.{named-change_other, named-change_same, named-put_other}
use Rattle.rx_world.proofs.Sounds.{exchange_fork, rows_wrote, states_of}
use Rattle.rx_world.proofs.States.{valid_state}
use Rattle.rx_world.proofs.Steps.{collection_new, exchange_goes, fork_rows_taken, rows_go}

-- ---- a collection

-- it has its schema, and states were written to it
pub record IsGrown (old new : Held) : Type 0 where
  pub schema : new.schema ≡ old.schema
  pub states : List State
  pub wrote : Wrote old.documents states new.documents

-- it is held, and so
pub record StaysGrown (cs : Collections) (at : List ℕ) (old : Held) : Type 0 where
  pub new : Held
  pub held : named cs at ≡ Some new
  pub grown : IsGrown old new

-- none need be written
grown_same : (c : Held) → IsGrown c c
grown_same c = record {
  schema = refl;
  states = [];
  wrote = record {
    at = λ k. inl (record { absent = λ s m. absurd m; same = refl });
    rises = inr refl;
    by_key = λ b. b;
  };
}

stays_same : (cs : Collections) (at : List ℕ) (c : Held) → named cs at ≡ Some c
    → StaysGrown cs at c
stays_same cs at c held = record { new = c; held = held; grown = grown_same c }

-- rows that it takes are
grown_rows : (lwt : ℕ) (written : List RowOut) (c : Held) → takes lwt written c ≡ true
    → KeysRise written → IsGrown c (written_to lwt written c)
grown_rows lwt written c is rise = record {
  schema = with_rows-schema c (stored_rows c.name lwt written);
  states = states_of written;
  wrote = rows_wrote lwt written c is rise;
}

-- a record makes it anew only where it migrates its group
abbrev pub IsApart : Content → World → List ℕ → Type 0
IsApart (migration name text steps) w at = is_in_group w.replications name at ≡ false
IsApart other w at = Unit {0}

rows_at : (w : World) (name : List ℕ) (lwt : ℕ) (written : List RowOut) (at : List ℕ) (c : Held)
    → named w.collections at ≡ Some c → ((d : Held) → named w.collections name ≡ Some d
    → IsGrown d (written_to lwt written d))
    → StaysGrown (change_named w.collections name (written_to lwt written)) at c
rows_at w name lwt written at c held grows =
    elim (bytes_eq at name) as (λ b. bytes_eq at name ≡ b
    → StaysGrown (change_named w.collections name (written_to lwt written)) at c) [
      | true ↦ (λ is.
          let same : at ≡ name = (bytes_eq-Decides at name).0 is in
          let here : named w.collections name ≡ Some c =
          ap (named w.collections) (sym same) ∙ held in
          record {
            new = written_to lwt written c;
            held = ap (named (change_named w.collections name (written_to lwt written))) same
                ∙ named-change_same (written_to lwt written) w.collections name
                ∙ ap (option_map (written_to lwt written)) here;
            grown = grows c here;
          })
      | false ↦ (λ is.
          let other : at ≢ name =
          λ same. true≢false (sym ((bytes_eq-Decides at name).1 same) ∙ is) in
          stays_same (change_named w.collections name (written_to lwt written)) at c
          (named-change_other (written_to lwt written) w.collections name at other ∙ held))
    ] refl

-- the rows of an exchange, if there is one
grown_fork : (lwt : ℕ) (written : List RowOut) (known : List State) (c : Held) → KeysRise written
    → fork_takes lwt written known c ≡ true → IsGrown c (written_to lwt written c)
grown_fork lwt [] known c rise takes_it = grown_same c
grown_fork lwt (row ∷ written) known c rise takes_it =
    grown_rows lwt (row ∷ written) c (fork_rows_taken lwt row written known c takes_it) rise

exchange_at : (name : List ℕ) (lwt : ℕ) (written : List RowOut) (known : List State)
    (up down : Option Place) (w : World)
    → legal (exchange name lwt written known up down) w ≡ true → KeysRise written → IsMadeWorld w
    → (at : List ℕ) (c : Held) → named w.collections at ≡ Some c
    → (o : Option Replication) → named w.replications name ≡ o
    → StaysGrown (step (exchange name lwt written known up down) w).collections at c
exchange_at name lwt written known up down w is rise made at c held None none =
    absurd (true≢false (sym is ∙ ap (λ o. option_map_or
    (takes_exchange w.collections lwt written known up down) o false) none))
exchange_at name lwt written known up down w is rise made at c held (Some r) there =
    let l = at_name (λ k x. IsLinked w.collections k x) w.replications name r
    made.linked.each there in
    let f = exchange_fork name lwt written known up down w r l.fork there l.held in
    let cs = (step (exchange name lwt written known up down) w).collections in
    elim (bytes_eq at r.fork) as (λ b. bytes_eq at r.fork ≡ b → StaysGrown cs at c) [
      | true ↦ (λ h.
          let same : at ≡ r.fork = (bytes_eq-Decides at r.fork).0 h in
          let here : l.fork ≡ c =
          some_same (sym l.held ∙ ap (named w.collections) (sym same) ∙ held) in
          record {
            new = written_to lwt written l.fork;
            held = ap (named cs) same ∙ f.is;
            grown = subst (λ (x : Held). IsGrown x (written_to lwt written l.fork)) here
                (grown_fork lwt written known l.fork rise
                (exchange_goes name lwt written known up down w is r there l.fork l.held));
          })
      | false ↦ (λ h.
          let other : at ≢ r.fork =
          λ same. true≢false (sym ((bytes_eq-Decides at r.fork).1 same) ∙ h) in
          stays_same cs at c (f.others at other ∙ held))
    ] refl

-- what isn't of a group stays
named_outside : (G : List ℕ → Bool) (schema : Shape) (steps : List Step) (cs : Collections)
    (at : List ℕ) → G at ≡ false
    → named
    (map (λ (e : List ℕ × Held). cond (G e.0) (e.0, migrated_collection schema steps e.1) e) cs) at
    ≡ named cs at
named_outside G schema steps [] at out = refl
named_outside G schema steps (e ∷ cs) at out =
    let rest = named_outside G schema steps cs at out in
    let after =
    map (λ (e : List ℕ × Held). cond (G e.0) (e.0, migrated_collection schema steps e.1) e) cs in
    elim (G e.0) as (λ g. G e.0 ≡ g
    → named (cond g (e.0, migrated_collection schema steps e.1) e ∷ after) at ≡ named (e ∷ cs) at) [
      | true ↦ (λ inside.
          let other : bytes_eq at e.0 ≡ false =
          elim (bytes_eq at e.0) as (λ b. bytes_eq at e.0 ≡ b → b ≡ false) [
            | true ↦ (λ h.
                absurd (true≢false (sym inside ∙ ap G (sym ((bytes_eq-Decides at e.0).0 h)) ∙ out)))
            | false ↦ (λ h. refl)
          ] refl in
          ap (λ b. cond b (Some (migrated_collection schema steps e.1)) (named after at)) other
          ∙ rest ∙ sym (ap (λ b. cond b (Some e.1) (named cs at)) other))
      | false ↦ (λ outside. ap (cond (bytes_eq at e.0) (Some e.1)) rest)
    ] refl

-- a collection that a legal record doesn't make anew is held after it, with what was written
pub stays_grown : (content : Content) (w : World) → legal content w ≡ true → IsOrdered content
    → IsMadeWorld w → (at : List ℕ) (c : Held) → named w.collections at ≡ Some c
    → IsApart content w at → StaysGrown (step content w).collections at c
stays_grown (collection name schema) w is ordered made at c held apart =
    let free = (collection_new name schema w is).unheld in
    elim (schema_in schema)
    as (λ o. StaysGrown (collections_after (new_where name o) w.collections) at c) [
      | None ↦ stays_same w.collections at c held
      | Some s ↦ stays_same (put_named w.collections name (held_with name s [])) at c
          (named-put_other w.collections name at (held_with name s [])
          (held_other w.collections at name c free held) ∙ held)
    ]
stays_grown (rows name lwt written) w is ordered made at c held apart =
    rows_at w name lwt written at c held (λ d there.
    let to = rows_go name lwt written w is in
    grown_rows lwt written d
    (subst (λ (x : Held). takes lwt written x ≡ true) (some_same (sym to.named ∙ there)) to.taken)
    ordered)
stays_grown (replication name fork master handler field) w is ordered made at c held apart =
    stays_same w.collections at c held
stays_grown (exchange name lwt written known up down) w is ordered made at c held apart =
    exchange_at name lwt written known up down w is ordered.rows_rise made at c held
    (named w.replications name) refl
stays_grown (epoch number) w is ordered made at c held apart = stays_same w.collections at c held
stays_grown (migration name text steps) w is ordered made at c held apart =
    let G = is_in_group w.replications name in
    elim (schema_in text)
    as (λ o. StaysGrown (collections_after (remade_where G steps o) w.collections) at c) [
      | None ↦ stays_same w.collections at c held
      | Some s ↦ stays_same (collections_after (remade_where G steps (Some s)) w.collections) at c
          (named_outside G s steps w.collections at apart ∙ held)
    ]
stays_grown other w is ordered made at c held apart = absurd (true≢false (sym is))

-- ---- a replication

-- it is held, from its fork to its master
pub record StaysFrom (rs : Replications) (name : List ℕ) (old : Replication) : Type 0 where
  pub new : Replication
  pub held : named rs name ≡ Some new
  pub fork : new.fork ≡ old.fork
  pub master : new.master ≡ old.master

from_same : (rs : Replications) (name : List ℕ) (r : Replication) → named rs name ≡ Some r
    → StaysFrom rs name r
from_same rs name r held = record { new = r; held = held; fork = refl; master = refl }

from_exchange : (rs : Replications) (other name : List ℕ) (known : List State)
    (up down : Option Place) (r : Replication) → named rs name ≡ Some r
    → StaysFrom (change_named rs other (with_exchange known up down)) name r
from_exchange rs other name known up down r held =
    elim (bytes_eq name other) as (λ b. bytes_eq name other ≡ b
    → StaysFrom (change_named rs other (with_exchange known up down)) name r) [
      | true ↦ (λ is.
          let same : name ≡ other = (bytes_eq-Decides name other).0 is in
          record {
            new = with_exchange known up down r;
            held = ap (named (change_named rs other (with_exchange known up down))) same
                ∙ named-change_same (with_exchange known up down) rs other
                ∙ ap (option_map (with_exchange known up down)) (ap (named rs) (sym same) ∙ held);
            fork = refl;
            master = refl;
          })
      | false ↦ (λ is.
          let apart : name ≢ other =
          λ same. true≢false (sym ((bytes_eq-Decides name other).1 same) ∙ is) in
          from_same (change_named rs other (with_exchange known up down)) name r
          (named-change_other (with_exchange known up down) rs other name apart ∙ held))
    ] refl

module _ (G : List ℕ → Bool) (steps : List Step) (rs : Replications) (name : List ℕ)
    (r : Replication)
    (rest : named rs name ≡ Some r → StaysFrom (map (migrated_entry G steps) rs) name r)
    (e : List ℕ × Replication) where
  -- the one that is first, migrated or not
  abbrev first_as : Bool → List ℕ × Replication
  first_as g = cond g (e.0, migrated_replication steps e.1) e

  from_first : (g b : Bool) → bytes_eq name e.0 ≡ b → named (e ∷ rs) name ≡ Some r
      → StaysFrom (first_as g ∷ map (migrated_entry G steps) rs) name r
  from_first true true is held =
      let same : e.1 ≡ r =
      some_same (sym (ap (λ b. cond b (Some e.1) (named rs name)) is) ∙ held) in
      record {
        new = migrated_replication steps e.1;
        held = ap (λ b. cond b (Some (migrated_replication steps e.1))
            (named (map (migrated_entry G steps) rs) name)) is;
        fork = ap (λ (x : Replication). x.fork) same;
        master = ap (λ (x : Replication). x.master) same;
      }
  from_first false true is held =
      let same : e.1 ≡ r =
      some_same (sym (ap (λ b. cond b (Some e.1) (named rs name)) is) ∙ held) in
      record {
        new = e.1;
        held = ap (λ b. cond b (Some e.1) (named (map (migrated_entry G steps) rs) name)) is;
        fork = ap (λ (x : Replication). x.fork) same;
        master = ap (λ (x : Replication). x.master) same;
      }
  from_first true false is held =
      let more = rest (sym (ap (λ b. cond b (Some e.1) (named rs name)) is) ∙ held) in
      record {
        new = more.new;
        held = ap (λ b. cond b (Some (migrated_replication steps e.1))
            (named (map (migrated_entry G steps) rs) name)) is ∙ more.held;
        fork = more.fork;
        master = more.master;
      }
  from_first false false is held =
      let more = rest (sym (ap (λ b. cond b (Some e.1) (named rs name)) is) ∙ held) in
      record {
        new = more.new;
        held = ap (λ b. cond b (Some e.1) (named (map (migrated_entry G steps) rs) name)) is
            ∙ more.held;
        fork = more.fork;
        master = more.master;
      }

from_migrated : (G : List ℕ → Bool) (steps : List Step) (rs : Replications) (name : List ℕ)
    (r : Replication) → named rs name ≡ Some r
    → StaysFrom (map (migrated_entry G steps) rs) name r
from_migrated G steps [] name r held = not_none held
from_migrated G steps (e ∷ rs) name r held =
    from_first G steps rs name r (from_migrated G steps rs name r) e (G e.1.fork)
    (bytes_eq name e.0) refl held

-- a replication is held after a legal record
pub stays_from : (content : Content) (w : World) → legal content w ≡ true → (name : List ℕ)
    (r : Replication) → named w.replications name ≡ Some r
    → StaysFrom (step content w).replications name r
stays_from (collection called schema) w is name r held = from_same w.replications name r held
stays_from (rows called lwt written) w is name r held = from_same w.replications name r held
stays_from (replication called fork master handler field) w is name r held =
    from_same (put_named w.replications called (new_replication called fork master handler field))
    name r
    (named-put_other w.replications called name (new_replication called fork master handler field)
    (held_other w.replications name called r (begins called fork master w is).free held) ∙ held)
stays_from (exchange called lwt written known up down) w is name r held =
    from_exchange w.replications called name known up down r held
stays_from (epoch number) w is name r held = from_same w.replications name r held
stays_from (migration called text steps) w is name r held =
    from_migrated (is_in_group w.replications called) steps w.replications name r held
stays_from other w is name r held = absurd (true≢false (sym is))

-- ---- documents

-- those of a lawful collection of valid documents hold their keys as their primary keys
pub documents_pass : (c : Held) → IsLawful c → AreValid c
    → DocumentsPass (is_valid_state c.schema) c.documents
documents_pass c lawful valid k d at =
    valid_state c.schema d.state
    (at_name (λ k d. first_fault c.schema d.state.fields ≡ None) c.documents k d valid at)
    (at_name (λ k d. IsHeldAt c.schema.primary k d) c.documents k d lawful.each at).carried
