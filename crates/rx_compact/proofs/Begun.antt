-- The records of collections and of replications make a world as it is without documents, and
-- without what forks know.
use Rattle.std.proofs.Common.{◌≡◌, ℕ, ◌&&◌, Bool, true, false, not, List, [], ◌∷◌, ◌++◌, map, length, Option, Some, None, is_none, is_some, option_map, nat_lt, refl, sym, ap, ◌∙◌, subst, arith, append_assoc, append-nil, length-append}
use Rattle.std.proofs.lemmas.Bool.{and_from, and_parts, lt-ltb, or_from}
use Rattle.std.proofs.lemmas.List.{length-map, map-append}
use Rattle.std.proofs.lemmas.List.Concat.{flat_map_single}
use Rattle.std.proofs.lemmas.Map.{lookup-none}
use Rattle.std.proofs.lemmas.Map.Made.{lookup-map_values}
use Rattle.std.specs.List.{AllByRecursion, IsDistinct, list_any}
use Rattle.std.specs.Map.{keys_of, values_of}
use Rattle.std.specs.Option.{option_map_or}
use Rattle.std.specs.Str.{bytes_eq}
use Rattle.rx_value.specs.Name.{is_name}
use Rattle.rx_value.specs.Named.{named, put_named}
use Rattle.rx_value.proofs.Bytes.{bytes_itself}
use Rattle.rx_value.proofs.Lists.{all_at}
use Rattle.rx_schema.specs.Writing.{canonical_text}
use Rattle.rx_schema.specs.declared.shape.Shape.{Shape}
use Rattle.rx_collection.specs.Held.{Held}
use Rattle.rx_tree.specs.Forest as tree
use Rattle.rx_tree.specs.Forest.{are_made, is_forest, root_of}
use Rattle.rx_record.specs.declared.record.MasterName.{MasterName}
use Rattle.rx_record.specs.declared.record.MasterName.TheVariants.{Local, Port}
use Rattle.rx_world.specs.Chain.{Forks, fork_before, forest_of, has_fork, is_fork, local_forks, may_follow, tree_root}
use Rattle.rx_world.specs.Lawful.{IsLawfulAt}
use Rattle.rx_world.specs.Linked.{HasMaster, IsLinked, forks_of}
use Rattle.rx_world.specs.Made.{IsMadeWorld}
use Rattle.rx_world.specs.Names.{AreNames}
use Rattle.rx_world.specs.Replicating.{has_schema_of, is_fitting}
use Rattle.rx_world.specs.Schema.{schema_in}
use Rattle.rx_world.specs.Step.{collections_after}
use Rattle.rx_world.specs.Touch.{new_where}
use Rattle.rx_world.specs.Valid.{IsSpelled}
use Rattle.rx_world.specs.World.{World, Collections, Replications, empty, max_collections, max_replications}
use Rattle.rx_world.specs.declared.replication.Replication.{Replication}
use Rattle.rx_compact.specs.Making.{MayCopy, all_emptied, all_unlearnt, bare, copied_world, emptied, unlearnt}
use Rattle.rx_compact.specs.Plan.{collection_record, replication_record}
use Rattle.rx_compact.proofs.Among.{apart_before, free_before, keys_among, put_at_end}
use Rattle.rx_compact.proofs.Turns.{Makes, all_turns, at_turn, makes_on, makes_one}

-- ---- names

module _ {X Y : Type 0} (f : X → Y) where
  -- things by name, each of them changed
  abbrev each_changed : List (List ℕ × X) → List (List ℕ × Y)
  each_changed es = map (λ e. (e.0, f e.1)) es

  -- what a record asks of the name of a new thing behind such ones
  record IsNext (most : ℕ) (before : List (List ℕ × X)) (name : List ℕ) : Type 0 where
    called : is_name name ≡ true
    free : named (each_changed before) name ≡ None
    room : nat_lt (length (each_changed before)) most ≡ true

  -- each of things that have names may come behind those before it
  comes_next : (most : ℕ) (all before : List (List ℕ × X)) (e : List ℕ × X)
      (rest : List (List ℕ × X)) → all ≡ before ++ e ∷ rest → AreNames most (keys_of all)
      → IsNext most before e.0
  comes_next most all before e rest at names =
      let keys = keys_among all before e rest at in
      let free = free_before all before e rest at names.distinct in
      let count = length-append (keys_of before) (e.0 ∷ keys_of rest) in
      let same : length (keys_of before) ≡ length (each_changed before) =
      length-map before (λ (d : List ℕ × X). d.0)
      ∙ sym (length-map before (λ (d : List ℕ × X). (d.0, f d.1))) in
      let few = names.few in
      let all_keys = ap length keys in
      record {
        called = all_at (λ n. is_name n ≡ true) (keys_of before) e.0 (keys_of rest)
            (subst (AllByRecursion (λ n. is_name n ≡ true)) keys names.each);
        free = lookup-map_values f (bytes_eq e.0) before
            ∙ ap (option_map f) (lookup-none (bytes_eq e.0) before free);
        room = lt-ltb (length (each_changed before)) most (omega arith);
      }

  -- and goes to the end
  put_next : (most : ℕ) (before : List (List ℕ × X)) (e : List ℕ × X) → IsNext most before e.0
      → put_named (each_changed before) e.0 (f e.1) ≡ each_changed (before ++ e ∷ [])
  put_next most before e next =
      put_at_end (each_changed before) e.0 (f e.1) next.free
      ∙ sym (map-append (λ (d : List ℕ × X). (d.0, f d.1)) before (e ∷ []))

-- ---- forests

-- each of forks that are made could follow its master among those before it
made_at : {X : Type 0} (same : X → X → Bool) (done es : List (X × X)) (e : X × X)
    (more : List (X × X)) → are_made same done (es ++ e ∷ more) ≡ true
    → tree.may_follow same (done ++ es) e.0 e.1 ≡ true
made_at same done [] e more made =
    subst (λ ds. tree.may_follow same ds e.0 e.1 ≡ true) (sym (append-nil done))
    (and_parts (tree.may_follow same done e.0 e.1) (are_made same (done ++ e ∷ []) more) made).0
made_at same done (d ∷ es) e more made =
    subst (λ ds. tree.may_follow same ds e.0 e.1 ≡ true) (append_assoc done (d ∷ []) es)
    (made_at same (done ++ d ∷ []) es e more
    (and_parts (tree.may_follow same done d.0 d.1)
    (are_made same (done ++ d ∷ []) (es ++ e ∷ more)) made).1)

-- the forks of some replications, and of others
local_forks-append : (rs qs : List Replication)
    → local_forks (rs ++ qs) ≡ local_forks rs ++ local_forks qs
local_forks-append [] qs = refl
local_forks-append (r ∷ rs) qs =
    ap (fork_before r.fork r.master) (local_forks-append rs qs)
    ∙ first r.master (local_forks rs) (local_forks qs)
  where
    first : (m : MasterName) (es fs : Forks)
        → fork_before r.fork m (es ++ fs) ≡ fork_before r.fork m es ++ fs
    first (Local name) es fs = refl
    first (Port port) es fs = refl

-- what forks know leaves them
forest_unlearnt : (rs : Replications) → forest_of (all_unlearnt rs) ≡ forest_of rs
forest_unlearnt [] = refl
forest_unlearnt (e ∷ rs) = ap (fork_before e.1.fork e.1.master) (forest_unlearnt rs)

-- what is the fork of none of them is no fork
no_fork : (rs : Replications) (fork : List ℕ)
    → AllByRecursion (λ n. bytes_eq n fork ≡ false) (forks_of rs)
    → is_fork fork (all_unlearnt rs) ≡ false
no_fork [] fork apart = refl
no_fork (e ∷ rs) fork apart =
    or_from (bytes_eq e.1.fork fork) (list_any (has_fork fork) (values_of (all_unlearnt rs)))
    apart.0 (no_fork rs fork apart.1)

-- where a fork could follow its master, it still may
may_still : (before : Replications) (fork : List ℕ) (m : MasterName) (more : Forks)
    → is_fork fork (all_unlearnt before) ≡ false
    → is_forest bytes_eq (forest_of before ++ fork_before fork m more) ≡ true
    → may_follow (all_unlearnt before) fork m ≡ true
may_still before fork (Local name) more none forest =
    let es = forest_of before in
    let may = made_at bytes_eq [] es (fork, name) more forest in
    let other = (and_parts (not (tree.is_fork bytes_eq es fork))
    (not (bytes_eq (root_of bytes_eq es name) fork)) may).1 in
    and_from (not (is_fork fork (all_unlearnt before)))
    (not (bytes_eq (tree_root (all_unlearnt before) name) fork)) (ap not none)
    (ap (λ (fs : Forks). not (bytes_eq (root_of bytes_eq fs name) fork)) (forest_unlearnt before)
    ∙ other)
may_still before fork (Port port) more none forest = ap not none

module _ (w : World) (made : IsMadeWorld w) where
  -- ---- collections

  abbrev with_collections : Collections → World
  with_collections cs = record { collections = cs; replications = []; epoch = 0 }

  -- a collection's record makes it
  one_collection : (before : Collections) (c : Held) → IsSpelled c
      → IsNext emptied max_collections before c.name
      → Makes (collection_record c ∷ []) (with_collections (all_emptied before))
      (with_collections (all_emptied (before ++ (c.name, c) ∷ [])))
  one_collection before c spelled next =
      let cs = all_emptied before in
      let text = canonical_text c.schema in
      let called = is_name c.name in
      let free = is_none (named cs c.name) in
      let room = nat_lt (length cs) max_collections in
      makes_one (collection_record c) (with_collections cs)
      (with_collections (all_emptied (before ++ (c.name, c) ∷ [])))
      (and_from (called && free && room) (is_some (schema_in text))
      (and_from (called && free) room (and_from called free next.called (ap is_none next.free))
      next.room) (ap is_some spelled))
      (ap (λ (o : Option Shape). with_collections (collections_after (new_where c.name o) cs))
      spelled ∙ ap with_collections (put_next emptied max_collections before (c.name, c) next))

  collection_turn : (before : Collections) (e : List ℕ × Held) (rest : Collections)
      → w.collections ≡ before ++ e ∷ rest
      → Makes (collection_record e.1 ∷ []) (with_collections (all_emptied before))
      (with_collections (all_emptied (before ++ e ∷ [])))
  collection_turn before e rest at =
      let lawful = at_turn (λ d. IsLawfulAt d.0 d.1) w.collections before e rest at made.lawful in
      let spelled = at_turn (λ d. IsSpelled d.1) w.collections before e rest at made.spelled in
      subst (λ (n : List ℕ). IsNext emptied max_collections before n
      → Makes (collection_record e.1 ∷ []) (with_collections (all_emptied before))
      (with_collections (all_emptied (before ++ (n, e.1) ∷ [])))) lawful.called
      (one_collection before e.1 spelled)
      (comes_next emptied max_collections w.collections before e rest at made.collection_names)

  all_collections : Makes (map (λ e. collection_record e.1) w.collections) empty
      (with_collections (all_emptied w.collections))
  all_collections =
      subst (λ cs. Makes cs empty (with_collections (all_emptied w.collections)))
      (flat_map_single (λ (e : List ℕ × Held). collection_record e.1) w.collections)
      (all_turns w.collections (λ e. collection_record e.1 ∷ [])
      (λ before rest. with_collections (all_emptied before)) collection_turn)

  -- ---- replications

  abbrev with_replications : Replications → World
  with_replications rs =
      record { collections = all_emptied w.collections; replications = rs; epoch = 0 }

  -- what is held is held without its documents
  held_emptied : (name : List ℕ) (c : Held) → named w.collections name ≡ Some c
      → named (all_emptied w.collections) name ≡ Some (emptied c)
  held_emptied name c at =
      lookup-map_values emptied (bytes_eq name) w.collections ∙ ap (option_map emptied) at

  -- a master fits its fork
  fits : (fork : Held) (name : List ℕ) (m : MasterName)
      → HasMaster w.collections name fork.schema m
      → is_fitting (all_emptied w.collections) m (emptied fork) ≡ true
  fits fork name (Local master) has =
      ap (λ (o : Option Held). option_map_or (has_schema_of (emptied fork)) o false)
      (held_emptied master has.master has.held)
      ∙ ap (λ (s : Shape). bytes_eq (canonical_text s) (canonical_text fork.schema)) has.same
      ∙ bytes_itself (canonical_text fork.schema)
  fits fork name (Port port) has = lt-ltb 0 port has

  -- a replication's record makes it
  one_replication : (before : Replications) (r : Replication) (name : List ℕ)
      → IsLinked w.collections name r → may_follow (all_unlearnt before) r.fork r.master ≡ true
      → IsNext unlearnt max_replications before r.name
      → Makes (replication_record r ∷ []) (with_replications (all_unlearnt before))
      (with_replications (all_unlearnt (before ++ (r.name, r) ∷ [])))
  one_replication before r name linked follows next =
      let cs = all_emptied w.collections in
      let rs = all_unlearnt before in
      let called = is_name r.name in
      let free = is_none (named rs r.name) in
      let fit = option_map_or (is_fitting cs r.master) (named cs r.fork) false in
      let may = may_follow rs r.fork r.master in
      let room = nat_lt (length rs) max_replications in
      let fitting : fit ≡ true =
      ap (λ (o : Option Held). option_map_or (is_fitting cs r.master) o false)
      (held_emptied r.fork linked.fork linked.held)
      ∙ fits linked.fork r.fork r.master linked.master in
      makes_one (replication_record r) (with_replications rs)
      (with_replications (all_unlearnt (before ++ (r.name, r) ∷ [])))
      (and_from (called && free && fit && may) room
      (and_from (called && free && fit) may
      (and_from (called && free) fit (and_from called free next.called (ap is_none next.free))
      fitting) follows) next.room)
      (ap with_replications (put_next unlearnt max_replications before (r.name, r) next))

  replication_turn : (before : Replications) (e : List ℕ × Replication) (rest : Replications)
      → w.replications ≡ before ++ e ∷ rest
      → Makes (replication_record e.1 ∷ []) (with_replications (all_unlearnt before))
      (with_replications (all_unlearnt (before ++ e ∷ [])))
  replication_turn before e rest at =
      let r = e.1 in
      let linked = at_turn (λ d. IsLinked w.collections d.0 d.1) w.replications before e rest at
      made.linked.each in
      let forks = ap forks_of at
      ∙ map-append (λ (d : List ℕ × Replication). d.1.fork) before (e ∷ rest) in
      let none = no_fork before r.fork
      (apart_before bytes_eq (forks_of before) r.fork (forks_of rest)
      (subst (IsDistinct bytes_eq) forks made.linked.apart)) in
      let forest = ap forest_of at
      ∙ ap local_forks (map-append (λ (d : List ℕ × Replication). d.1) before (e ∷ rest))
      ∙ local_forks-append (values_of before) (r ∷ values_of rest) in
      let follows = may_still before r.fork r.master (forest_of rest) none
      (subst (λ (es : Forks). is_forest bytes_eq es ≡ true) forest made.forest) in
      subst (λ (n : List ℕ). IsNext unlearnt max_replications before n
      → Makes (replication_record r ∷ []) (with_replications (all_unlearnt before))
      (with_replications (all_unlearnt (before ++ (n, r) ∷ [])))) linked.called
      (one_replication before r e.0 linked follows)
      (comes_next unlearnt max_replications w.replications before e rest at
      made.replication_names)

  all_replications : Makes (map (λ e. replication_record e.1) w.replications)
      (with_collections (all_emptied w.collections)) (bare w)
  all_replications =
      subst (λ cs. Makes cs (with_collections (all_emptied w.collections)) (bare w))
      (flat_map_single (λ (e : List ℕ × Replication). replication_record e.1) w.replications)
      (all_turns w.replications (λ e. replication_record e.1 ∷ [])
      (λ before rest. with_replications (all_unlearnt before)) replication_turn)

-- both
pub begun : (w : World) → IsMadeWorld w
    → let cs = map (λ e. collection_record e.1) w.collections
    ++ map (λ e. replication_record e.1) w.replications in
    MayCopy cs empty × (copied_world cs empty ≡ bare w)
begun w made =
    makes_on (map (λ e. collection_record e.1) w.collections)
    (map (λ e. replication_record e.1) w.replications) empty
    (record { collections = all_emptied w.collections; replications = []; epoch = 0 }) (bare w)
    (all_collections w made) (all_replications w made)
