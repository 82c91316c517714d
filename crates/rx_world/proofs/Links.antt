-- Replications stay linked.
use Rattle.std.proofs.Common.{◌≡◌, ◌≢◌, ℕ, ◌||◌, not, true, false, true≢false, cond, List, [], ◌∷◌, map, Option, Some, None, is_some, IfSome, option_map, refl, sym, ap, ◌∙◌, inl, inr, subst, arith}
use Rattle.std.proofs.lemmas.Bool.{and_parts, or_parts, not-true, ltb-true}
use Rattle.std.proofs.lemmas.Slice.Eq.{bytes_eq-Decides}
use Rattle.std.specs.Borrow.{Bor}
use Rattle.std.specs.List.{AllByRecursion, IsDistinct, list_all, list_any}
use Rattle.std.specs.Map.{values_of}
use Rattle.std.specs.Option.{option_map_or}
use Rattle.std.specs.Str.{bytes_eq}
use Rattle.rx_value.specs.Named.{named, put_named, change_named, put_in_order}
use Rattle.rx_value.specs.declared.state.State.{State}
use Rattle.rx_value.proofs.Outcomes.{some_same, not_none}
use Rattle.rx_value.proofs.Bytes.{bytes_cases}
use Rattle.rx_schema.specs.Writing.{canonical_text}
use Rattle.rx_schema.specs.declared.shape.Shape.{Shape}
use Rattle.rx_document.specs.declared.place.Place.{Place}
use Rattle.rx_document.specs.declared.stored.Stored.{Stored}
use Rattle.rx_collection.specs.Commit.{with_row, with_rows}
use Rattle.rx_collection.specs.Held.{Held, held_with}
use Rattle.rx_collection.proofs.Named.{at_name, all_put}
use Rattle.rx_collection.proofs.Lawful.{rising_none}
use Rattle.rx_meta.specs.Side.{AreKnownByKey}
use Rattle.rx_record.specs.Content.{Content, collection, rows, replication, exchange, migration}
use Rattle.rx_record.specs.Writable.{IsOrdered, IsOrderedExchange}
use Rattle.rx_record.specs.declared.record.MasterName.{MasterName}
use Rattle.rx_record.specs.declared.record.MasterName.TheVariants.{Local, Port}
use Rattle.rx_record.specs.declared.record.RowOut.{RowOut}
use Rattle.rx_replication.specs.Known.{KnownStates, with_learnt}
use Rattle.rx_replication.proofs.Commits.{learn-rising}
use Rattle.rx_world.specs.Chain.{has_fork, is_fork, tree_root, IsForest, may_follow}
use Rattle.rx_world.specs.Linked.{HasMaster, IsLinked, AreLinked, forks_of}
use Rattle.rx_world.specs.Replicating.{new_replication, with_exchange, has_schema_of, is_fitting}
use Rattle.rx_world.specs.Schema.{schema_in}
use Rattle.rx_world.specs.Step.{IsValidState, is_valid_state, is_held_with, takes_rows, has_key, legal, step, collections_after, stored_rows, written_to}
use Rattle.rx_world.specs.Touch.{IsNoMigration, no_collection, new_where, fork_rows}
use Rattle.rx_world.specs.Valid.{AllSpelled, IsSpelled}
use Rattle.rx_world.specs.World.{World, Collections, Replications, empty}
use Rattle.rx_world.specs.declared.replication.Replication.{Replication}
use Rattle.rx_world.proofs.Looked.{named-put_other, named-change_same, named-change_other, all_put_named, all_change_named}
use Rattle.rx_world.proofs.Beginning.{Begins, begins}
use Rattle.rx_world.proofs.Spelled.{read_spelled}
use Rattle.rx_world.proofs.Steps.{collection_new, exchange_goes}
use Rattle.rx_world.proofs.Trees.{other_than_root}

-- ---- what stays held

-- each collection that was held is held, with its schema
pub record StayHeld (before after : Collections) : Type 0 where
  pub held : (k : List ℕ) (c : Held) → named before k ≡ Some c
      → (d : Held) × (named after k ≡ Some d) × (d.schema ≡ c.schema)

stay_same : (cs : Collections) → StayHeld cs cs
stay_same cs = record { held = λ k c at. (c, at, refl) }

-- a held name isn't a free one
pub held_other : {X : Type 0} (cs : List (List ℕ × X)) (k name : List ℕ) (c : X)
    → named cs name ≡ None
    → named cs k ≡ Some c → k ≢ name
held_other cs k name c free at = λ same. not_none (sym free ∙ ap (named cs) (sym same) ∙ at)

-- they do where a new one comes
pub stay_new : (cs : Collections) (name : List ℕ) (new : Held) → named cs name ≡ None
    → StayHeld cs (put_named cs name new)
stay_new cs name new free = record {
  held = λ k c at. (c, named-put_other cs name k new (held_other cs k name c free at) ∙ at, refl);
}

-- rows leave the schema
pub with_rows-schema : (c : Held) (more : List Stored) → (with_rows c more).schema ≡ c.schema
with_rows-schema c [] = refl
with_rows-schema c (row ∷ more) = with_rows-schema (with_row c row) more

written-schema : (lwt : ℕ) (written : List RowOut) (c : Held)
    → (written_to lwt written c).schema ≡ c.schema
written-schema lwt written c = with_rows-schema c (stored_rows c.name lwt written)

-- and where one is written
pub stay_written : (cs : Collections) (name : List ℕ) (lwt : ℕ) (written : List RowOut)
    → StayHeld cs (change_named cs name (written_to lwt written))
stay_written cs name lwt written = record {
  held = λ k c at. elim (bytes_cases k name) [
    | inl is ↦ (
      written_to lwt written c,
      ap (named (change_named cs name (written_to lwt written))) is
          ∙ named-change_same (written_to lwt written) cs name
          ∙ ap (option_map (written_to lwt written)) (ap (named cs) (sym is) ∙ at),
      written-schema lwt written c,
    )
    | inr other ↦ (c, named-change_other (written_to lwt written) cs name k other ∙ at, refl)
  ];
}

-- and where a fork is, if there is a row
stay_fork : (cs : Collections) (lwt : ℕ) (written : List RowOut) (o : Option Replication)
    → StayHeld cs (collections_after (option_map_or (fork_rows lwt written) o no_collection) cs)
stay_fork cs lwt written None = stay_same cs
stay_fork cs lwt [] (Some r) = stay_same cs
stay_fork cs lwt (row ∷ written) (Some r) = stay_written cs r.fork lwt (row ∷ written)

-- so they do after a legal record that is no migration
pub stay_step : (entry : Content) (w : World) → legal entry w ≡ true → IsNoMigration entry
    → StayHeld w.collections (step entry w).collections
stay_step (collection name schema) w is other =
    let unheld = (collection_new name schema w is).unheld in
    elim (schema_in schema)
    as (λ o. StayHeld w.collections (collections_after (new_where name o) w.collections)) [
      | None ↦ stay_same w.collections
      | Some s ↦ stay_new w.collections name (held_with name s []) unheld
    ]
stay_step (rows name lwt written) w is other = stay_written w.collections name lwt written
stay_step (replication name fork master handler field) w is other = stay_same w.collections
stay_step (exchange name lwt written known up down) w is other =
    stay_fork w.collections lwt written (named w.replications name)
stay_step (migration name text steps) w is other = absurd other
stay_step entry w is other = stay_same w.collections

-- ---- a replication stays linked

module _ (before after : Collections) (stay : StayHeld before after) where
  master_stays : (m : MasterName) (fork : List ℕ) (s t : Shape) → t ≡ s → HasMaster before fork s m
      → HasMaster after fork t m
  master_stays (Local name) fork s t same m =
      let d = stay.held name m.master m.held in
      record { master = d.0; held = d.1; other = m.other; same = d.2 ∙ m.same ∙ sym same }
  master_stays (Port port) fork s t same m = m

  link_stays : (name : List ℕ) (r : Replication) → IsLinked before name r → IsLinked after name r
  link_stays name r l =
      let d = stay.held r.fork l.fork l.held in
      record {
        called = l.called;
        fork = d.0;
        held = d.1;
        master = master_stays r.master r.fork l.fork.schema d.0.schema d.2 l.master;
        by_key = l.by_key;
        valid =
            subst (λ s. AllByRecursion (λ e. IsValidState s e.1) r.side.known) (sym d.2) l.valid;
        up_has_time = l.up_has_time;
        down_has_time = l.down_has_time;
      }

  pub links_stay : (rs : Replications) → AllByRecursion (λ e. IsLinked before e.0 e.1) rs
      → AllByRecursion (λ e. IsLinked after e.0 e.1) rs
  links_stay [] all = tt
  links_stay (e ∷ rs) all = (link_stays e.0 e.1 all.0, links_stay rs all.1)

-- ---- a new replication

-- the texts of schemas tell them apart
same_schema : (fork master : Held) → IsSpelled fork → IsSpelled master
    → has_schema_of fork master ≡ true
    → master.schema ≡ fork.schema
same_schema fork master spelled spelled' same =
    some_same (sym spelled'
    ∙ ap schema_in
    ((bytes_eq-Decides (canonical_text master.schema) (canonical_text fork.schema)).0 same)
    ∙ spelled)

-- what its master is
master_linked : (w : World) (fork : List ℕ) (c : Held) (m : MasterName) → AllSpelled w
    → IsForest w.replications
    → named w.collections fork ≡ Some c → is_fitting w.collections m c ≡ true
    → may_follow w.replications fork m ≡ true → HasMaster w.collections fork c.schema m
master_linked w fork c (Local name) spelled forest held fits follows =
    let at : (k : List ℕ) (x : Held) → named w.collections k ≡ Some x → IsSpelled x =
    λ k x here. at_name (λ k x. IsSpelled x) w.collections k x spelled here in
    elim (named w.collections name) as (λ o. named w.collections name ≡ o
    → option_map_or (has_schema_of c) o false ≡ true
    → HasMaster w.collections fork c.schema (Local name)) [
      | None ↦ (λ here no. absurd (true≢false (sym no)))
      | Some master ↦ (λ here yes. record {
        master = master;
        held = here;
        other = other_than_root w.replications fork name forest follows;
        same = same_schema c master (at fork c held) (at name master here) yes;
      })
    ] refl fits
master_linked w fork c (Port port) spelled forest held fits follows =
    let some = ltb-true 0 port fits in omega arith

-- a new one is linked
new_linked : (name fork : List ℕ) (m : MasterName) (handler : List ℕ)
    (field : Option (List ℕ)) (w : World)
    → AllSpelled w → IsForest w.replications → Begins name fork m w
    → IsLinked w.collections name (new_replication name fork m handler field)
new_linked name fork m handler field w spelled forest b = record {
  called = refl;
  fork = b.fork_held;
  held = b.held;
  master = master_linked w fork b.fork_held m spelled forest b.held b.fits b.follows;
  by_key = record { rising = rising_none State; keyed = tt };
  valid = tt;
  up_has_time = tt;
  down_has_time = tt;
}

-- its fork is none of the others
no_fork : (rs : Replications) (fork : List ℕ) (m : MasterName) → may_follow rs fork m ≡ true
    → is_fork fork rs ≡ false
no_fork rs fork (Local name) is =
    not-true (is_fork fork rs)
    (and_parts (not (is_fork fork rs)) (not (bytes_eq (tree_root rs name) fork)) is).0
no_fork rs fork (Port port) is = not-true (is_fork fork rs) is

others_apart : (rs : Replications) (fork : List ℕ) → is_fork fork rs ≡ false
    → AllByRecursion (λ f. bytes_eq f fork ≡ false) (forks_of rs)
others_apart [] fork none = tt
others_apart (e ∷ rs) fork none =
    let both = or_parts (has_fork fork e.1) (list_any (has_fork fork) (values_of rs)) none in
    (both.0, others_apart rs fork both.1)

-- one more fork at the end
apart_more : (f : List ℕ) (rs : Replications) (name : List ℕ) (r : Replication)
    → named rs name ≡ None
    → bytes_eq f r.fork ≡ false → AllByRecursion (λ g. bytes_eq f g ≡ false) (forks_of rs)
    → AllByRecursion (λ g. bytes_eq f g ≡ false) (forks_of (put_named rs name r))
apart_more f [] name r free here all = (here, tt)
apart_more f (e ∷ rs) name r free here all =
    elim (bytes_eq name e.0) as (λ b. cond b (Some e.1) (named rs name) ≡ None
    → AllByRecursion (λ g. bytes_eq f g ≡ false)
    (forks_of (cond b ((e.0, r) ∷ rs) (e ∷ put_named rs name r)))) [
      | true ↦ (λ no. not_none (sym no))
      | false ↦ (λ none. (all.0, apart_more f rs name r none here all.1))
    ] free

forks_put : (rs : Replications) (name : List ℕ) (r : Replication) → named rs name ≡ None
    → AllByRecursion (λ f. bytes_eq f r.fork ≡ false) (forks_of rs)
    → IsDistinct bytes_eq (forks_of rs) → IsDistinct bytes_eq (forks_of (put_named rs name r))
unfolding IsDistinct
forks_put [] name r free others apart = (tt, tt)
forks_put (e ∷ rs) name r free others apart =
    elim (bytes_eq name e.0) as (λ b. cond b (Some e.1) (named rs name) ≡ None
    → IsDistinct bytes_eq (forks_of (cond b ((e.0, r) ∷ rs) (e ∷ put_named rs name r)))) [
      | true ↦ (λ no. not_none (sym no))
      | false ↦ (λ none. (
        apart_more e.1.fork rs name r none others.0 apart.0,
        forks_put rs name r none others.1 apart.1,
      ))
    ] free

-- ---- an exchange

-- a change that leaves the fork leaves all forks
pub forks_changed : (f : Replication → Replication) → ((r : Replication) → (f r).fork ≡ r.fork)
    → (rs : Replications) (name : List ℕ) → forks_of (change_named rs name f) ≡ forks_of rs
forks_changed f same [] name = refl
forks_changed f same (e ∷ rs) name =
    elim (bytes_eq name e.0)
    as (λ b.
    forks_of (cond b ((e.0, f e.1) ∷ rs) (e ∷ change_named rs name f)) ≡ forks_of (e ∷ rs)) [
      | true ↦ ap (λ k. k ∷ forks_of rs) (same e.1)
      | false ↦ ap (λ ks. e.1.fork ∷ ks) (forks_changed f same rs name)
    ]

-- what is learnt is valid where it is held
learnt_valid : (c : Held) (written : List RowOut) (ss : List State) (known : KnownStates)
    → list_all (is_held_with c written) ss ≡ true
    → AllByRecursion (λ e. IsValidState c.schema e.1) known
    → AllByRecursion (λ e. IsValidState c.schema e.1) (with_learnt known ss)
learnt_valid c written [] known is all = all
learnt_valid c written (s ∷ ss) known is all =
    let both = and_parts (is_held_with c written s) (list_all (is_held_with c written) ss) is in
    let here : IsValidState c.schema s =
    (and_parts (is_valid_state c.schema s)
    (is_some (named c.documents s.key) || has_key s.key written) both.0).0 in
    learnt_valid c written ss (put_in_order known s.key s) both.1
    (all_put (λ k t. IsValidState c.schema t) known s.key s here all)

learnt_keyed : (ss : List State) (known : KnownStates) → AllByRecursion (λ e. e.1.key ≡ e.0) known
    → AllByRecursion (λ e. e.1.key ≡ e.0) (with_learnt known ss)
learnt_keyed [] known all = all
learnt_keyed (s ∷ ss) known all =
    learnt_keyed ss (put_in_order known s.key s) (all_put (λ k t. t.key ≡ k) known s.key s refl all)

-- known states stay by key
pub learnt_by_key : (ss : List State) (known : KnownStates) → AreKnownByKey known
    → AreKnownByKey (with_learnt known ss)
learnt_by_key ss known by_key = record {
  rising = learn-rising known ss by_key.rising;
  keyed = learnt_keyed ss known by_key.keyed;
}

-- what a legal exchange asks of the known states
known_held : (name : List ℕ) (lwt : ℕ) (written : List RowOut) (known : List State)
    (up down : Option Place) (w : World)
    → legal (exchange name lwt written known up down) w ≡ true → (r : Replication)
    → named w.replications name ≡ Some r → (c : Held) → named w.collections r.fork ≡ Some c
    → list_all (is_held_with c written) known ≡ true
known_held name lwt written known up down w is r at c held =
    (and_parts (takes_rows lwt written c) (list_all (is_held_with c written) known)
    (exchange_goes name lwt written known up down w is r at c held)).1

-- its replication stays linked
exchange_links : (name : List ℕ) (lwt : ℕ) (written : List RowOut) (known : List State)
    (up down : Option Place) (w : World)
    → legal (exchange name lwt written known up down) w ≡ true
    → IsOrderedExchange written known up down → AreLinked w → (r : Replication)
    → named w.replications name ≡ Some r → (after : Collections) → StayHeld w.collections after
    → IsLinked after name (with_exchange known up down r)
unfolding link_stays
exchange_links name lwt written known up down w is ordered links r at after stay =
    let l = at_name (λ k x. IsLinked w.collections k x) w.replications name r links.each at in
    let m = link_stays w.collections after stay name r l in
    record {
      called = m.called;
      fork = m.fork;
      held = m.held;
      master = m.master;
      by_key = learnt_by_key known r.side.known m.by_key;
      valid =
          let d = stay.held r.fork l.fork l.held in
          subst (λ s. AllByRecursion (λ e. IsValidState s e.1) (with_learnt r.side.known known))
          (sym d.2)
          (learnt_valid l.fork written known r.side.known
          (known_held name lwt written known up down w is r at l.fork l.held) l.valid);
      up_has_time = ordered.up_has_time;
      down_has_time = ordered.down_has_time;
    }

-- ---- all

-- a legal record that is no migration leaves replications linked
pub linked_step : (entry : Content) (w : World) → legal entry w ≡ true → IsNoMigration entry
    → IsOrdered entry → AllSpelled w
    → IsForest w.replications → AreLinked w → AreLinked (step entry w)
linked_step (collection name schema) w is other ordered spelled forest links = record {
  each = links_stay w.collections (step (collection name schema) w).collections
      (stay_step (collection name schema) w is tt) w.replications links.each;
  apart = links.apart;
}
linked_step (rows name lwt written) w is other ordered spelled forest links = record {
  each = links_stay w.collections (step (rows name lwt written) w).collections
      (stay_step (rows name lwt written) w is tt) w.replications links.each;
  apart = links.apart;
}
linked_step (replication name fork master handler field) w is other ordered spelled forest links =
    let b = begins name fork master w is in
    let r = new_replication name fork master handler field in
    record {
      each = all_put_named (λ k x. IsLinked w.collections k x) w.replications name r
          (new_linked name fork master handler field w spelled forest b) links.each;
      apart = forks_put w.replications name r b.free
          (others_apart w.replications fork (no_fork w.replications fork master b.follows))
          links.apart;
    }
linked_step (exchange name lwt written known up down) w is other ordered spelled forest links =
    let entry = exchange name lwt written known up down in
    let after : Collections = (step entry w).collections in
    let stay : StayHeld w.collections after = stay_step entry w is tt in
    record {
      each = all_change_named (λ k x. IsLinked after k x) w.replications name
          (with_exchange known up down)
          (λ r at here.
          exchange_links name lwt written known up down w is ordered links r at after stay)
          (links_stay w.collections after stay w.replications links.each);
      apart = subst (IsDistinct bytes_eq)
          (sym (forks_changed (with_exchange known up down) (λ r. refl) w.replications name))
          links.apart;
    }
linked_step (migration name text steps) w is other ordered spelled forest links = absurd other
linked_step entry w is other ordered spelled forest links =
    record { each = links.each; apart = links.apart }

pub linked_empty : AreLinked empty
unfolding IsDistinct
linked_empty = record { each = tt; apart = tt }

-- ---- the texts of schemas

-- rows leave them so
spelled_rows : (cs : Collections) (name : List ℕ) (lwt : ℕ) (written : List RowOut)
    → AllByRecursion (λ e. IsSpelled e.1) cs
    → AllByRecursion (λ e. IsSpelled e.1) (change_named cs name (written_to lwt written))
spelled_rows cs name lwt written all =
    all_change_named (λ k c. IsSpelled c) cs name (written_to lwt written)
    (λ c at here. subst (λ s. schema_in (canonical_text s) ≡ Some s)
    (sym (written-schema lwt written c)) here) all

spelled_fork : (cs : Collections) (lwt : ℕ) (written : List RowOut) (o : Option Replication)
    → AllByRecursion (λ e. IsSpelled e.1) cs
    → AllByRecursion (λ e. IsSpelled e.1)
    (collections_after (option_map_or (fork_rows lwt written) o no_collection) cs)
spelled_fork cs lwt written None all = all
spelled_fork cs lwt [] (Some r) all = all
spelled_fork cs lwt (row ∷ written) (Some r) all = spelled_rows cs r.fork lwt (row ∷ written) all

-- a legal record that is no migration leaves collections whose schemas' texts read back
pub spelled_step : (entry : Content) (w : World) → legal entry w ≡ true → IsNoMigration entry
    → AllSpelled w
    → AllSpelled (step entry w)
spelled_step (collection name schema) w is other all =
    let new = collection_new name schema w is in
    let back : IsSpelled (held_with name new.shape []) =
    ap schema_in (read_spelled schema new.shape new.read) ∙ new.read in
    subst (λ o.
    AllByRecursion (λ e. IsSpelled e.1) (collections_after (new_where name o) w.collections))
    (sym new.read)
    (all_put_named (λ k c. IsSpelled c) w.collections name (held_with name new.shape []) back all)
spelled_step (rows name lwt written) w is other all =
    spelled_rows w.collections name lwt written all
spelled_step (replication name fork master handler field) w is other all = all
spelled_step (exchange name lwt written known up down) w is other all =
    spelled_fork w.collections lwt written (named w.replications name) all
spelled_step (migration name text steps) w is other all = absurd other
spelled_step entry w is other all = all

-- ---- what a call lends

pub linked_found : (w : World) (name : List ℕ) (o : Option (Bor Replication)) → AreLinked w
    → option_map (λ r. r.now) o ≡ named w.replications name
    → IfSome o (λ r. IsLinked w.collections name r.now)
linked_found w name None links at = tt
linked_found w name (Some r) links at =
    at_name (λ k x. IsLinked w.collections k x) w.replications name r.now links.each (sym at)

-- ---- worlds that have the same replications

-- a replication with its name
abbrev called : Replication → List ℕ × Replication
called r = (r.name, r)

by_own_name : (cs : Collections) (rs : Replications) → AllByRecursion (λ e. IsLinked cs e.0 e.1) rs
    → rs ≡ map called (values_of rs)
by_own_name cs [] all = refl
by_own_name cs (e ∷ rs) all =
    let first : (e.0, e.1) ≡ called e.1 = λ i. (sym all.0.called i, e.1) in
    let rest = by_own_name cs rs all.1 in cc

-- replications that are the same are so by name
pub same_by_name : (v w : World) → AreLinked v → AreLinked w
    → values_of v.replications ≡ values_of w.replications → v.replications ≡ w.replications
same_by_name v w links links' same =
    by_own_name v.collections v.replications links.each ∙ ap (map called) same
    ∙ sym (by_own_name w.collections w.replications links'.each)
