-- A copy makes the world that it is of, and a front of it that isn't all of it makes none.
use Rattle.std.proofs.Common.{◌≡◌, ◌≤◌, ◌||◌, ℕ, true, false, cond, List, [], ◌∷◌, ◌++◌, map, Option, Some, is_some, refl, sym, ap, ◌∙◌, subst, append_assoc, append-nil}
use Rattle.std.proofs.lemmas.Bool.{le-leb}
use Rattle.std.specs.List.{flat_map}
use Rattle.std.specs.Map.{values_of}
use Rattle.std.specs.Option.{option_map_or}
use Rattle.rx_value.specs.declared.state.State.{State}
use Rattle.rx_collection.specs.Held.{Held}
use Rattle.rx_meta.specs.Side.{Side}
use Rattle.rx_record.specs.Content.{Content, part, end}
use Rattle.rx_record.specs.declared.record.MasterName.{MasterName}
use Rattle.rx_record.specs.declared.record.MasterName.TheVariants.{Local, Port}
use Rattle.rx_record.specs.declared.record.PartRow.{PartRow}
use Rattle.rx_replication.specs.Sound.{HoldKnown}
use Rattle.rx_world.specs.Copy.{most_copied_epoch, takes_part, with_part}
use Rattle.rx_world.specs.Lawful.{IsLawfulAt}
use Rattle.rx_world.specs.Linked.{HasMaster, IsLinked}
use Rattle.rx_world.specs.Made.{IsMadeWorld}
use Rattle.rx_world.specs.Sound.{IsSoundIn, IsSoundWith, IsSoundWorld}
use Rattle.rx_world.specs.Valid.{AreValid}
use Rattle.rx_world.specs.World.{World, Collections, Replications, empty}
use Rattle.rx_world.specs.declared.replication.Replication.{Replication}
use Rattle.rx_compact.specs.Laws.{AreTokened, CopyMakesWorld, FrontMakesNone, IsTokened}
use Rattle.rx_compact.specs.Making.{TakeParts, all_emptied, all_unlearnt, bare, emptied, unlearnt, with_parts}
use Rattle.rx_compact.specs.Plan.{collection_record, in_parts, known_by, known_record, known_records, part_records, plan, replication_record, rows_in}
use Rattle.rx_compact.proofs.Among.{IsFree, free_before}
use Rattle.rx_compact.proofs.Begun.{begun}
use Rattle.rx_compact.proofs.Behind.{changed_behind, named_behind}
use Rattle.rx_compact.proofs.Bodies.{AreOpen, open_both, open_flat, open_front, open_map, replays_none, replays_whole}
use Rattle.rx_compact.proofs.KnownStates.{known_make}
use Rattle.rx_compact.proofs.Parts.{parts_join, parts_some}
use Rattle.rx_compact.proofs.Rows.{rows_make}
use Rattle.rx_compact.proofs.Turns.{Makes, all_turns, at_turn, makes_on, makes_one}

-- ---- the four kinds of records before the end

abbrev collections_in : World → List Content
collections_in w = map (λ e. collection_record e.1) w.collections

abbrev replications_in : World → List Content
replications_in w = map (λ e. replication_record e.1) w.replications

abbrev documents_in : World → List Content
documents_in w = flat_map (λ e. part_records e.1) w.collections

abbrev known_in : World → List Content
known_in w = flat_map (λ e. known_records e.1) w.replications

abbrev before_end : World → List Content
before_end w = collections_in w ++ replications_in w ++ documents_in w ++ known_in w

-- none of them is the end
known_open : (r : Replication) (parts : List (List State)) → AreOpen (known_by r parts)
known_open r [] =
    elim (is_some r.side.up || is_some r.side.down)
    as (λ b. AreOpen (cond b (known_record r [] ∷ []) []))
    [ true ↦ (refl, tt) | false ↦ tt ]
known_open r (known ∷ more) = open_map (known_record r) (λ k. refl) (known ∷ more)

all_open : (w : World) → AreOpen (before_end w)
all_open w =
    let cs = open_map (λ (e : List ℕ × Held). collection_record e.1) (λ e. refl) w.collections in
    let rs = open_map (λ (e : List ℕ × Replication). replication_record e.1) (λ e. refl)
    w.replications in
    let ds = open_flat (λ (e : List ℕ × Held). part_records e.1)
    (λ e. open_map (part e.1.name) (λ p. refl) (in_parts (rows_in e.1))) w.collections in
    let ks = open_flat (λ (e : List ℕ × Replication). known_records e.1)
    (λ e. known_open e.1 (in_parts (values_of e.1.side.known))) w.replications in
    open_both (collections_in w ++ replications_in w ++ documents_in w) (known_in w)
    (open_both (collections_in w ++ replications_in w) (documents_in w)
    (open_both (collections_in w) (replications_in w) cs rs) ds) ks

pub front_makes_none : FrontMakesNone
front_makes_none w front rest is some bodies say =
    replays_none front (Some empty)
    (open_front front rest (before_end w) (end w.epoch) is some (all_open w)) bodies say

-- ---- the parts of a collection

module _ (w : World) (name : List ℕ) (before after : Collections) (free : IsFree name before) where
  -- the world with a collection among others
  abbrev world_with : Held → World
  world_with c = record w { collections = before ++ (name, c) ∷ after }

  parts_make : (ps : List (List PartRow)) (c : Held) → TakeParts ps c
      → Makes (map (part name) ps) (world_with c) (world_with (with_parts ps c))
  parts_make [] c take = (tt, refl)
  parts_make (p ∷ ps) c take =
      makes_on (part name p ∷ []) (map (part name) ps) (world_with c) (world_with (with_part p c))
      (world_with (with_parts ps (with_part p c)))
      (makes_one (part name p) (world_with c) (world_with (with_part p c))
      (ap (λ (o : Option Held). option_map_or (takes_part p) o false)
      (named_behind name before after c free) ∙ take.0)
      (ap (λ (cs : Collections). record w { collections = cs })
      (changed_behind name before after c (with_part p) free)))
      (parts_make ps (with_part p c) take.1)

-- ---- a whole copy

-- the fork of a sound replication holds the keys of what it knows
holds_known : (cs : Collections) (fork : Held) (name : List ℕ) (m : MasterName) (s : Side)
    → HasMaster cs name fork.schema m → IsSoundWith cs m fork s → HoldKnown fork.documents s.known
holds_known cs fork name (Local master) s has sound =
    (sound has.master has.held).fork_side.holds
holds_known cs fork name (Port port) s has sound = sound.holds

module _ (w : World) (made : IsMadeWorld w) where
  -- ---- documents

  abbrev with_collections : Collections → World
  with_collections cs =
      record { collections = cs; replications = all_unlearnt w.replications; epoch = 0 }

  -- the records of a collection's documents give them to it
  documents_turn : AreTokened w → (before : Collections) (e : List ℕ × Held)
      (rest : Collections) → w.collections ≡ before ++ e ∷ rest
      → Makes (part_records e.1) (with_collections (before ++ all_emptied (e ∷ rest)))
      (with_collections ((before ++ e ∷ []) ++ all_emptied rest))
  documents_turn tokened before e rest at =
      let c = e.1 in
      let after = all_emptied rest in
      let ps = in_parts (rows_in c) in
      let lawful = at_turn (λ d. IsLawfulAt d.0 d.1) w.collections before e rest at
      made.lawful in
      let valid = at_turn (λ d. AreValid d.1) w.collections before e rest at made.valid in
      let token = at_turn (λ d. IsTokened d.1) w.collections before e rest at tokened in
      let rows = rows_make c lawful.lawful valid token ps (parts_join (rows_in c))
      (parts_some (rows_in c)) in
      let free = free_before w.collections before e rest at made.distinct in
      let run = parts_make (bare w) e.0 before after free ps (emptied c) rows.0 in
      let done = ap (λ (d : Held). with_collections (before ++ (e.0, d) ∷ after)) rows.1
      ∙ ap with_collections (sym (append_assoc before (e ∷ []) after)) in
      subst (λ (n : List ℕ). Makes (map (part n) ps)
      (with_collections (before ++ all_emptied (e ∷ rest)))
      (with_collections ((before ++ e ∷ []) ++ after))) (sym lawful.called)
      (run.0, run.1 ∙ done)

  all_documents : AreTokened w
      → Makes (documents_in w) (bare w) (with_collections w.collections)
  all_documents tokened =
      let all = all_turns w.collections (λ e. part_records e.1)
      (λ before rest. with_collections (before ++ all_emptied rest)) (documents_turn tokened) in
      (all.0, all.1 ∙ ap with_collections (append-nil w.collections))

  -- ---- known states

  abbrev with_replications : Replications → World
  with_replications rs = record { collections = w.collections; replications = rs; epoch = 0 }

  -- the records of what a fork knows tell it that
  known_turn : IsSoundWorld w → (before : Replications) (e : List ℕ × Replication)
      (rest : Replications) → w.replications ≡ before ++ e ∷ rest
      → Makes (known_records e.1) (with_replications (before ++ all_unlearnt (e ∷ rest)))
      (with_replications ((before ++ e ∷ []) ++ all_unlearnt rest))
  known_turn sound before e rest at =
      let r = e.1 in
      let after = all_unlearnt rest in
      let linked = at_turn (λ d. IsLinked w.collections d.0 d.1) w.replications before e rest at
      made.linked.each in
      let here = at_turn (λ d. IsSoundIn w.collections d.1) w.replications before e rest at
      sound in
      let holds = holds_known w.collections linked.fork r.fork r.master r.side linked.master
      (here linked.fork linked.held) in
      let run = subst (λ (n : List ℕ). IsFree n before → Makes (known_records r)
      (with_replications (before ++ (n, unlearnt r) ∷ after))
      (with_replications (before ++ (n, r) ∷ after))) linked.called
      (known_make w.collections linked.fork r linked.held linked.by_key linked.valid holds
      (with_replications (before ++ (r.name, unlearnt r) ∷ after)) refl before after refl)
      (free_before w.replications before e rest at made.replication_names.distinct) in
      (run.0, run.1 ∙ ap with_replications (sym (append_assoc before (e ∷ []) after)))

  all_known : IsSoundWorld w
      → Makes (known_in w) (with_collections w.collections) (with_replications w.replications)
  all_known sound =
      let all = all_turns w.replications (λ e. known_records e.1)
      (λ before rest. with_replications (before ++ all_unlearnt rest)) (known_turn sound) in
      (all.0, all.1 ∙ ap with_replications (append-nil w.replications))

  -- ---- all records

  plan_makes : IsSoundWorld w → AreTokened w → w.epoch ≤ most_copied_epoch
      → Makes (plan w) empty w
  plan_makes sound tokened low =
      let begins = collections_in w ++ replications_in w in
      let filled = with_collections w.collections in
      let learnt = with_replications w.replications in
      makes_on (before_end w) (end w.epoch ∷ []) empty learnt w
      (makes_on (begins ++ documents_in w) (known_in w) empty filled learnt
      (makes_on begins (documents_in w) empty (bare w) filled (begun w made)
      (all_documents tokened)) (all_known sound))
      (makes_one (end w.epoch) learnt w (le-leb w.epoch most_copied_epoch low) refl)

pub copy_makes_world : CopyMakesWorld
copy_makes_world w made sound tokened low bodies say =
    let all = plan_makes w made sound tokened low in
    replays_whole (before_end w) w.epoch empty (all_open w) all.0 bodies say ∙ ap Some all.1
