-- What is level has the same state at each key.
use Rattle.std.proofs.Common.{◌≡◌, ◌∙◌, ℕ, ◌==◌, ◌<◌, true, false, List, [], length, Option, Some, refl, sym, ap, subst, arith, eqb-true}
use Rattle.std.proofs.lemmas.Bool.{and_parts}
use Rattle.std.proofs.lemmas.List.{nil_from_length}
use Rattle.std.specs.Option.{option_map_or}
use Rattle.rx_value.specs.Named.{named}
use Rattle.rx_value.proofs.Outcomes.{some_same}
use Rattle.rx_document.specs.declared.place.Place.{Place}
use Rattle.rx_document.specs.declared.stored.Stored.{Stored}
use Rattle.rx_collection.specs.Held.{Held}
use Rattle.rx_collection.specs.Since.{since}
use Rattle.rx_replication.specs.Exchange.{Link}
use Rattle.rx_replication.specs.Known.{KnownStates, pending, with_learnt}
use Rattle.rx_replication.specs.Sound.{IsSound}
use Rattle.rx_replication.specs.Write.{AreByKey, state_at}
use Rattle.rx_replication.proofs.Commits.{write_wrote}
use Rattle.rx_replication.proofs.Handled.{pull_quiet, states_of}
use Rattle.rx_replication.proofs.Taken.{current_pull, none_pending-known, pull_same}
use Rattle.rx_record.specs.declared.record.MasterName.{MasterName}
use Rattle.rx_record.specs.declared.record.MasterName.TheVariants.{Local}
use Rattle.rx_stream.specs.Events.{max_states}
use Rattle.rx_world.specs.Sound.{IsSoundWith}
use Rattle.rx_world.specs.World.{World}
use Rattle.rx_world.specs.declared.replication.Replication.{Replication}
use Rattle.rx_sync.specs.Bound.{link_in, link_of}
use Rattle.rx_sync.specs.Delivery.{LevelIsEqual, is_level, is_level_link}
use Rattle.rx_sync.specs.Handling.{master_in}
use Rattle.rx_sync.specs.Laws.{HasMasterHere}
use Rattle.rx_sync.proofs.EventTakings.{pull_current}
use Rattle.rx_sync.proofs.Steps.{link_at}
use Rattle.rx_sync.proofs.Worlds.{by_key_at, sound_at}

-- ---- a fork and its master

module _ (fork master : Held) (known : KnownStates) (up down : Option Place)
    (fork_by_key : AreByKey fork.documents) (by_key : AreByKey master.documents)
    (sound : IsSound fork.documents master.documents known up down)
    (above : since master.documents down 1 ≡ []) (none : pending fork.documents known ≡ []) where
  each_known : (k : List ℕ) (d : Stored) → named fork.documents k ≡ Some d
      → named known k ≡ Some d.state
  each_known =
      none_pending-known fork.documents known fork_by_key
      (current_pull fork.documents known down down max_states fork_by_key
      (pull_current fork known down none))

  few : length (since master.documents down 1) < 1
  few = let is : length (since master.documents down 1) ≡ 0 = ap length above in omega arith

  -- what is known is what both have
  level_keys : (key : List ℕ) → state_at fork.documents key ≡ state_at master.documents key
  level_keys key =
      pull_same fork.documents known each_known [] (λ s t m. absurd m) fork.documents
      (write_wrote fork [] 0 fork refl) up sound.fork_side key
      ∙ sym (ap (λ (ds : List Stored). named (with_learnt known (states_of ds)) key) above)
      ∙ pull_quiet master.documents down 1 by_key (omega arith) sound.master_side.reached known
      sound.master_side few key

-- ---- in a world

pub level_is_equal : LevelIsEqual
level_is_equal w name made sound is = λ r at fork held k local master there key.
    let link : link_in w name ≡ Some (link_of r fork master) =
    link_at w name r k fork master at local held there in
    let level : is_level_link (link_of r fork master) ≡ true =
    sym (ap (λ (o : Option Link). option_map_or is_level_link o false) link) ∙ is in
    let above = since master.documents r.side.down 1 in
    let due = pending fork.documents r.side.known in
    let both = and_parts (length above == 0) (length due == 0) level in
    let sides : IsSoundWith w.collections (Local k) fork r.side =
    subst (λ (m : MasterName). IsSoundWith w.collections m fork r.side) local
    (sound_at w sound name r at fork held) in
    level_keys fork master r.side.known r.side.up r.side.down (by_key_at w made r.fork fork held)
    (by_key_at w made k master there) (sides master there)
    (nil_from_length above (eqb-true (length above) 0 both.0))
    (nil_from_length due (eqb-true (length due) 0 both.1)) key

-- what stands of a replication that is held, whose master is here
module _ (w : World) (name : List ℕ) (here : HasMasterHere w name)
    (r : Replication) (at : named w.replications name ≡ Some r) where
  local : r.master ≡ Local here.master
  local = ap (λ (r : Replication). r.master) (some_same (sym at ∙ here.held)) ∙ here.local

  pub level_here : (fork master : Held) → named w.collections r.fork ≡ Some fork
      → master_in w r.master ≡ Some master
      → is_level_link (link_of r fork master) ≡ is_level w name
  level_here fork master held found =
      let there : named w.collections here.master ≡ Some master =
      ap (master_in w) (sym local) ∙ found in
      sym (ap (λ (o : Option Link). option_map_or is_level_link o false)
      (link_at w name r here.master fork master at local held there))
