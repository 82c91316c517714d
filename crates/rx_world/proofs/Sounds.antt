-- Worlds stay sound.
use Rattle.std.proofs.Common.{◌≡◌, ◌≢◌, ℕ, ◌==◌, true, true≢false, List, [], ◌∷◌, map, Option, Some, None, option_map, refl, sym, ap, ◌∙◌, subst, arith, Less}
use Rattle.std.proofs.lemmas.Bool.{and_parts, eqb-true}
use Rattle.std.specs.List.{AllByRecursion, list_all}
use Rattle.std.specs.List.Sorted.{IsStrictlySortedBy}
use Rattle.std.specs.Map.{values_of}
use Rattle.std.specs.Option.{option_map_or}
use Rattle.std.specs.Ordering.{match_ordering}
use Rattle.rx_value.specs.Named.{named, put_named, change_named, put_in_order}
use Rattle.rx_value.specs.Order.{text_cmp}
use Rattle.rx_value.specs.declared.state.State.{State}
use Rattle.rx_value.proofs.Outcomes.{some_same, not_none}
use Rattle.rx_document.specs.Documents.{Documents}
use Rattle.rx_document.specs.declared.place.Place.{Place}
use Rattle.rx_schema.specs.declared.shape.Shape.{Shape}
use Rattle.rx_collection.specs.Commit.{by_key, next_height, row_of, rows_of, with_rows}
use Rattle.rx_collection.specs.Held.{Held, held_with}
use Rattle.rx_collection.proofs.Named.{at_name}
use Rattle.rx_meta.specs.Side.{Side}
use Rattle.rx_record.specs.Content.{Content, collection, rows, replication, exchange, migration}
use Rattle.rx_record.specs.Rows.{key_of}
use Rattle.rx_record.specs.Writable.{IsOrdered, KeysRise}
use Rattle.rx_record.specs.declared.record.MasterName.{MasterName}
use Rattle.rx_record.specs.declared.record.MasterName.TheVariants.{Local, Port}
use Rattle.rx_record.specs.declared.record.RowOut.{RowOut}
use Rattle.rx_replication.specs.Known.{KnownStates}
use Rattle.rx_replication.specs.Sound.{IsSoundSide, IsForkSound, IsMasterSound}
use Rattle.rx_replication.specs.Worlds.{Linked, HasSoundMaster, HasSoundSides as IsSoundLink}
use Rattle.rx_replication.proofs.Commits.{Wrote, commit_wrote}
use Rattle.rx_replication.proofs.Worlds.{IsWrittenAt, commit_keeps}
use Rattle.rx_world.specs.Linked.{HasMaster, IsLinked}
use Rattle.rx_world.specs.Made.{IsMadeWorld}
use Rattle.rx_world.specs.Replicating.{new_replication, with_exchange}
use Rattle.rx_world.specs.Schema.{schema_in}
use Rattle.rx_world.specs.Sound.{IsSoundWith, IsSoundIn, IsSoundWorld}
use Rattle.rx_world.specs.Step.{is_valid_state, is_next_row, takes, legal, step, collections_after, stored_of, stored_rows, written_to}
use Rattle.rx_world.specs.Touch.{IsNoExchange, no_collection, new_where, fork_rows}
use Rattle.rx_world.specs.World.{World, Collections, Replications, empty}
use Rattle.rx_world.specs.declared.replication.Replication.{Replication}
use Rattle.rx_world.proofs.Links.{held_other}
use Rattle.rx_world.proofs.Settled.{keeps_sound}
use Rattle.rx_world.proofs.Looked.{named-put_other, named-change_same, named-change_other, all_put_named, all_change_named}
use Rattle.rx_world.proofs.Steps.{rows_go, collection_new, exchange_goes, fork_rows_taken}
use Rattle.rx_world.proofs.Turns.{takes_parts}

-- ---- rows that are taken are those of a commit

abbrev keyed : State → List ℕ × State
keyed s = (s.key, s)

put_first : (s : State) (ss : List State)
    → AllByRecursion (λ k. text_cmp s.key k ≡ Less) (map (λ (t : State). t.key) ss)
    → put_in_order (map keyed ss) s.key s ≡ keyed s ∷ map keyed ss
put_first s [] less = refl
put_first s (t ∷ ts) less =
    ap (λ o. match_ordering o (keyed s ∷ keyed t ∷ map keyed ts) ((t.key, s) ∷ map keyed ts)
    (keyed t ∷ put_in_order (map keyed ts) s.key s)) less.0

-- states by rising key stay in their order
by_key-own : (ss : List State) → IsStrictlySortedBy text_cmp (map (λ (t : State). t.key) ss)
    → by_key ss ≡ map keyed ss
unfolding IsStrictlySortedBy
by_key-own [] up = refl
by_key-own (s ∷ ss) up =
    ap (λ es. put_in_order es s.key s) (by_key-own ss up.1) ∙ put_first s ss up.0

-- the states of rows
abbrev pub states_of : List RowOut → List State
states_of written = map (λ row. row.state) written

keys-states_of : (written : List RowOut)
    → map key_of written ≡ map (λ (t : State). t.key) (states_of written)
keys-states_of [] = refl
keys-states_of (row ∷ written) = ap (λ ks. row.state.key ∷ ks) (keys-states_of written)

each_row : (c : Held) (lwt : ℕ) (written : List RowOut) → list_all (is_next_row c) written ≡ true
    → map (row_of c lwt) (values_of (map keyed (states_of written)))
    ≡ stored_rows c.name lwt written
each_row c lwt [] due = refl
each_row c lwt (row ∷ written) due =
    let next = next_height (named c.documents row.state.key) in
    let both = and_parts (is_next_row c row) (list_all (is_next_row c) written) due in
    let height : row.height ≡ next =
    eqb-true row.height next
    (and_parts (is_valid_state c.schema row.state) (row.height == next) both.0).1 in
    let rest = each_row c lwt written both.1 in
    ap (λ d. d ∷ map (row_of c lwt) (values_of (map keyed (states_of written))))
    (λ i.
    record { state = row.state; rev = record { height = sym height i; token = c.name }; lwt = lwt })
    ∙ ap (λ ds. stored_of c.name lwt row ∷ ds) rest

pub taken_committed : (c : Held) (lwt : ℕ) (written : List RowOut) → KeysRise written
    → list_all (is_next_row c) written ≡ true
    → rows_of c (states_of written) lwt ≡ stored_rows c.name lwt written
taken_committed c lwt written rise due =
    ap (λ es. map (row_of c lwt) (values_of es))
    (by_key-own (states_of written)
    (subst (IsStrictlySortedBy text_cmp) (keys-states_of written) rise))
    ∙ each_row c lwt written due

-- what rows that a collection takes make of its documents
pub rows_wrote : (lwt : ℕ) (written : List RowOut) (c : Held) → takes lwt written c ≡ true
    → KeysRise written
    → Wrote c.documents (states_of written) (written_to lwt written c).documents
rows_wrote lwt [] c is rise = let some = (takes_parts lwt [] c is).some in absurd (omega arith)
rows_wrote lwt (row ∷ written) c is rise =
    let t = takes_parts lwt (row ∷ written) c is in
    subst (λ ds. Wrote c.documents (states_of (row ∷ written)) (with_rows c ds).documents)
    (taken_committed c lwt (row ∷ written) rise t.due)
    (commit_wrote c row.state (states_of written) lwt t.later)

-- ---- replications as links

-- the name of a master that is here
abbrev pub here : MasterName → Option (List ℕ)
here (Local name) = Some name
here (Port port) = None

abbrev pub link_of : Replication → Linked
link_of r = record {
  fork = r.fork;
  master = here r.master;
  known = r.side.known;
  up = r.side.up;
  down = r.side.down;
}

module _ (cs : Collections) where
  fork_half : (m : MasterName) (fork : List ℕ) (schema : Shape) (c : Held) (s : Side)
      → HasMaster cs fork schema m → IsSoundWith cs m c s → IsForkSound c.documents s.known s.up
  fork_half (Local name) fork schema c s has sound = (sound has.master has.held).fork_side
  fork_half (Port port) fork schema c s has sound = sound

  master_half : (m : MasterName) (fork : List ℕ) (schema : Shape) (c : Held) (s : Side)
      → HasMaster cs fork schema m → IsSoundWith cs m c s
      → HasSoundMaster cs (here m) s.known s.down
  master_half (Local name) fork schema c s has sound =
      (has.master, has.held, (sound has.master has.held).master_side)
  master_half (Port port) fork schema c s has sound = tt

  -- a replication that is linked and sound is a sound link
  pub to_link : (name : List ℕ) (r : Replication) → IsLinked cs name r → IsSoundIn cs r
      → IsSoundLink cs (link_of r)
  to_link name r l sound = record {
    fork_side = (
      l.fork,
      l.held,
      fork_half r.master r.fork l.fork.schema l.fork r.side l.master (sound l.fork l.held),
    );
    master_side =
        master_half r.master r.fork l.fork.schema l.fork r.side l.master (sound l.fork l.held);
  }

  halves : (m : MasterName) (c : Held) (s : Side) → IsForkSound c.documents s.known s.up
      → HasSoundMaster cs (here m) s.known s.down → IsSoundWith cs m c s
  halves (Local name) c s fork master = λ x held. record {
    fork_side = fork;
    master_side = subst (λ (y : Held). IsMasterSound y.documents s.known s.down)
        (some_same (sym master.1 ∙ held)) master.2;
  }
  halves (Port port) c s fork master = fork

  -- and the other way round
  pub from_link : (r : Replication) → IsSoundLink cs (link_of r) → IsSoundIn cs r
  from_link r link = λ c held.
      halves r.master c r.side
      (subst (λ (x : Held). IsForkSound x.documents r.side.known r.side.up)
      (some_same (sym link.fork_side.1 ∙ held)) link.fork_side.2) link.master_side

-- what keeps links keeps replications
all_kept : (before after : Collections)
    → ((r : Linked) → IsSoundLink before r → IsSoundLink after r) → (rs : Replications)
    → AllByRecursion (λ e. IsLinked before e.0 e.1) rs
    → AllByRecursion (λ e. IsSoundIn before e.1) rs
    → AllByRecursion (λ e. IsSoundIn after e.1) rs
all_kept before after keeps [] links all = tt
all_kept before after keeps (e ∷ rs) links all = (
  from_link after e.1 (keeps (link_of e.1) (to_link before e.0 e.1 links.0 all.0)),
  all_kept before after keeps rs links.1 all.1,
)

-- ---- a new collection

module _ (cs : Collections) (name : List ℕ) (new : Held) (free : named cs name ≡ None) where
  stays : (k : List ℕ) (c : Held) → named cs k ≡ Some c → named (put_named cs name new) k ≡ Some c
  stays k c at = named-put_other cs name k new (held_other cs k name c free at) ∙ at

  master_by_new : (m : Option (List ℕ)) (known : KnownStates) (down : Option Place)
      → HasSoundMaster cs m known down → HasSoundMaster (put_named cs name new) m known down
  master_by_new None known down s = tt
  master_by_new (Some k) known down s = (s.0, stays k s.0 s.1, s.2)

  link_by_new : (r : Linked) → IsSoundLink cs r → IsSoundLink (put_named cs name new) r
  link_by_new r s = record {
    fork_side = (s.fork_side.0, stays r.fork s.fork_side.0 s.fork_side.1, s.fork_side.2);
    master_side = master_by_new r.master r.known r.down s.master_side;
  }

-- ---- rows

written_at : (cs : Collections) (name : List ℕ) (lwt : ℕ) (written : List RowOut) (c : Held)
    → named cs name ≡ Some c → takes lwt written c ≡ true → KeysRise written
    → IsWrittenAt cs (change_named cs name (written_to lwt written)) name (states_of written)
written_at cs name lwt written c at is rise = record {
  old = c;
  new = written_to lwt written c;
  was = at;
  is = named-change_same (written_to lwt written) cs name
      ∙ ap (option_map (written_to lwt written)) at;
  wrote = rows_wrote lwt written c is rise;
  others = λ k other. named-change_other (written_to lwt written) cs name k other;
}

-- ---- a new replication

none_known : (documents : Documents) → IsSoundSide documents [] None
none_known documents = record {
  settled = λ k d at below. absurd (true≢false (sym below));
  holds = λ k s at. not_none at;
  reached = tt;
}

new_sound : (cs : Collections) (m : MasterName) (c : Held) (s : Side) → s.known ≡ [] → s.up ≡ None
    → s.down ≡ None
    → IsSoundWith cs m c s
new_sound cs (Local name) c s known up down = λ master held. record {
  fork_side = subst (λ p. IsSoundSide c.documents s.known p) (sym up)
      (subst (λ ks. IsSoundSide c.documents ks None) (sym known) (none_known c.documents));
  master_side = subst (λ p. IsSoundSide master.documents s.known p) (sym down)
      (subst (λ ks. IsSoundSide master.documents ks None) (sym known)
      (none_known master.documents));
}
new_sound cs (Port port) c s known up down =
    subst (λ p. IsSoundSide c.documents s.known p) (sym up)
    (subst (λ ks. IsSoundSide c.documents ks None) (sym known) (none_known c.documents))

-- ---- records that are no exchange

pub sound_empty : IsSoundWorld empty
sound_empty = tt

-- a legal record that is no exchange leaves a sound world
pub sound_step : (entry : Content) (w : World) → legal entry w ≡ true → IsOrdered entry
    → IsNoExchange entry
    → IsMadeWorld w → IsSoundWorld w → IsSoundWorld (step entry w)
sound_step (collection name schema) w is ordered none made sound =
    let free = (collection_new name schema w is).unheld in
    elim (schema_in schema) as (λ o. AllByRecursion
    (λ e. IsSoundIn (collections_after (new_where name o) w.collections) e.1) w.replications) [
      | None ↦ sound
      | Some s ↦ all_kept w.collections (put_named w.collections name (held_with name s []))
          (link_by_new w.collections name (held_with name s []) free) w.replications
          made.linked.each sound
    ]
sound_step (rows name lwt written) w is ordered none made sound =
    let to = rows_go name lwt written w is in
    let after : Collections = change_named w.collections name (written_to lwt written) in
    all_kept w.collections after
    (commit_keeps w.collections after name (states_of written)
    (written_at w.collections name lwt written to.held to.named to.taken ordered))
    w.replications made.linked.each sound
sound_step (replication name fork master handler field) w is ordered none made sound =
    all_put_named (λ k r. IsSoundIn w.collections r) w.replications name
    (new_replication name fork master handler field)
    (λ c held. new_sound w.collections master c
    (new_replication name fork master handler field).side refl refl refl)
    sound
sound_step (exchange name lwt written known up down) w is ordered none made sound = absurd none
sound_step (migration name text steps) w is ordered none made sound =
    keeps_sound name text steps w is sound
sound_step other w is ordered none made sound = sound

-- ---- an exchange

-- the collections after the rows of an exchange of that replication, if there is one
abbrev pub forked : Collections → ℕ → List RowOut → Option Replication → Collections
forked cs lwt written o =
    collections_after (option_map_or (fork_rows lwt written) o no_collection) cs

-- the fork has the rows, and all others are as they were
pub record HasForkWritten (before after : Collections) (fork : List ℕ) (new : Held) : Type 0 where
  pub is : named after fork ≡ Some new
  pub others : (k : List ℕ) → k ≢ fork → named after k ≡ named before k

fork_by : (cs : Collections) (lwt : ℕ) (written : List RowOut) (r : Replication) (c : Held)
    → named cs r.fork ≡ Some c
    → HasForkWritten cs (forked cs lwt written (Some r)) r.fork (written_to lwt written c)
fork_by cs lwt [] r c at = record { is = at; others = λ k other. refl }
fork_by cs lwt (row ∷ written) r c at = record {
  is = named-change_same (written_to lwt (row ∷ written)) cs r.fork
      ∙ ap (option_map (written_to lwt (row ∷ written))) at;
  others = λ k other. named-change_other (written_to lwt (row ∷ written)) cs r.fork k other;
}

pub exchange_fork : (name : List ℕ) (lwt : ℕ) (written : List RowOut) (known : List State)
    (up down : Option Place)
    (w : World) (r : Replication) (c : Held) → named w.replications name ≡ Some r
    → named w.collections r.fork ≡ Some c
    → HasForkWritten w.collections
    (step (exchange name lwt written known up down) w).collections r.fork
    (written_to lwt written c)
exchange_fork name lwt written known up down w r c at held =
    subst (λ o. HasForkWritten w.collections (forked w.collections lwt written o) r.fork
    (written_to lwt written c))
    (sym at) (fork_by w.collections lwt written r c held)

-- its rows keep all replications sound
rows_kept : (name : List ℕ) (lwt : ℕ) (written : List RowOut) (known : List State)
    (up down : Option Place) (w : World)
    → legal (exchange name lwt written known up down) w ≡ true → KeysRise written → IsMadeWorld w
    → IsSoundWorld w → (o : Option Replication) → named w.replications name ≡ o
    → AllByRecursion (λ e. IsSoundIn (forked w.collections lwt written o) e.1) w.replications
rows_kept name lwt written known up down w is rise made sound None at = sound
rows_kept name lwt [] known up down w is rise made sound (Some r) at = sound
rows_kept name lwt (row ∷ written) known up down w is rise made sound (Some r) at =
    let l = at_name (λ k x. IsLinked w.collections k x) w.replications name r made.linked.each at in
    let taken = fork_rows_taken lwt row written known l.fork
    (exchange_goes name lwt (row ∷ written) known up down w is r at l.fork l.held) in
    let after : Collections = change_named w.collections r.fork (written_to lwt (row ∷ written)) in
    all_kept w.collections after
    (commit_keeps w.collections after r.fork (states_of (row ∷ written))
    (written_at w.collections r.fork lwt (row ∷ written) l.fork l.held taken rise))
    w.replications made.linked.each sound

-- another collection than the fork is as it was
master_after : (before after : Collections) (m : MasterName) (fork : List ℕ) (schema : Shape)
    (c : Held) (s : Side)
    → HasMaster before fork schema m → ((k : List ℕ) → k ≢ fork → named after k ≡ named before k)
    → IsSoundWith before m c s → IsSoundWith after m c s
master_after before after (Local name) fork schema c s has same sound = λ master held.
    sound master (sym (same name has.other) ∙ held)
master_after before after (Port port) fork schema c s has same sound = sound

-- the fork with the rows, what it knows then and its master are sound
abbrev pub IsSoundTaking : World → List ℕ → ℕ → List RowOut → List State → Option Place
    → Option Place → Type 0
IsSoundTaking w name lwt written known up down =
    (r : Replication) (c : Held) → named w.replications name ≡ Some r
    → named w.collections r.fork ≡ Some c
    → IsSoundWith w.collections r.master (written_to lwt written c)
    (with_exchange known up down r).side

-- a legal exchange leaves a sound world where its own replication is sound then
pub sound_exchange : (name : List ℕ) (lwt : ℕ) (written : List RowOut) (known : List State)
    (up down : Option Place) (w : World) → legal (exchange name lwt written known up down) w ≡ true
    → IsOrdered (exchange name lwt written known up down) → IsMadeWorld w → IsSoundWorld w
    → IsSoundTaking w name lwt written known up down
    → IsSoundWorld (step (exchange name lwt written known up down) w)
sound_exchange name lwt written known up down w is ordered made sound taking =
    let after : Collections = (step (exchange name lwt written known up down) w).collections in
    all_change_named (λ k r. IsSoundIn after r) w.replications name (with_exchange known up down)
    (λ r at old c held.
    let l = at_name (λ k x. IsLinked w.collections k x) w.replications name r made.linked.each at in
    let f = exchange_fork name lwt written known up down w r l.fork at l.held in
    subst (λ (x : Held). IsSoundWith after r.master x (with_exchange known up down r).side)
    (some_same (sym f.is ∙ held))
    (master_after w.collections after r.master r.fork l.fork.schema (written_to lwt written l.fork)
    (with_exchange known up down r).side l.master f.others (taking r l.fork at l.held)))
    (rows_kept name lwt written known up down w is ordered.rows_rise made sound
    (named w.replications name) refl)
