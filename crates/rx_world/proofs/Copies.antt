-- A record of a copy leaves a world of which all holds that holds of made ones.
use Rattle.std.proofs.Common.{◌≡◌, ℕ, ◌&&◌, true, false, true≢false, List, Option, Some, option_map, nat_lt, length, refl, sym, ap, ◌∙◌, inl, inr, subst}
use Rattle.std.proofs.lemmas.Bool.{and_parts}
use Rattle.std.specs.List.{IsDistinct}
use Rattle.std.specs.Option.{option_map_or}
use Rattle.std.specs.Str.{bytes_eq}
use Rattle.rx_value.specs.Named.{named, change_named}
use Rattle.rx_value.specs.declared.state.State.{State}
use Rattle.rx_value.proofs.Bytes.{bytes_cases}
use Rattle.rx_schema.specs.Writing.{canonical_text}
use Rattle.rx_document.specs.declared.place.Place.{Place}
use Rattle.rx_collection.specs.Held.{Held}
use Rattle.rx_record.specs.Content.{Content, collection, rows, replication, exchange, epoch, migration, part, known_part, end}
use Rattle.rx_record.specs.Writable.{IsOrdered, IsOrderedKnown}
use Rattle.rx_record.specs.declared.record.PartRow.{PartRow}
use Rattle.rx_world.specs.Chain.{Forks}
use Rattle.rx_world.specs.Copy.{copy_step, may_copy, part_rows, with_part, takes_part, takes_known, are_copied_rows, are_copied_states}
use Rattle.rx_world.specs.Lawful.{IsLawfulAt}
use Rattle.rx_world.specs.Linked.{IsLinked}
use Rattle.rx_world.specs.Made.{IsMadeWorld}
use Rattle.rx_world.specs.Names.{AreNames}
use Rattle.rx_world.specs.Replicating.{with_exchange, stays_or_rises}
use Rattle.rx_world.specs.Schema.{schema_in}
use Rattle.rx_world.specs.Valid.{AreValid, IsSpelled}
use Rattle.rx_world.specs.World.{World, Collections, max_collections, max_replications}
use Rattle.rx_world.specs.declared.replication.Replication.{Replication}
use Rattle.rx_tree.specs.Forest.{is_forest}
use Rattle.rx_world.proofs.Copied.{part_lawful, part_valid, states_valid}
use Rattle.rx_world.proofs.Links.{StayHeld, links_stay, learnt_by_key, with_rows-schema, forks_changed}
use Rattle.rx_world.proofs.Looked.{named-change_same, named-change_other, all_change_named, keys-change_named}
use Rattle.rx_world.proofs.Making.{made_step}
use Rattle.rx_world.proofs.Trees.{forks_kept}
use Rattle.rx_world.proofs.Turns.{with_rows-name}

-- ---- a part

part-schema : (written : List PartRow) (c : Held) → (with_part written c).schema ≡ c.schema
part-schema written c = with_rows-schema c (part_rows c.name written)

stay_part : (cs : Collections) (name : List ℕ) (written : List PartRow)
    → StayHeld cs (change_named cs name (with_part written))
stay_part cs name written = record {
  held = λ k c at. elim (bytes_cases k name) [
    | inl is ↦ (
      with_part written c,
      ap (named (change_named cs name (with_part written))) is
          ∙ named-change_same (with_part written) cs name
          ∙ ap (option_map (with_part written)) (ap (named cs) (sym is) ∙ at),
      part-schema written c,
    )
    | inr other ↦ (c, named-change_other (with_part written) cs name k other ∙ at, refl)
  ];
}

-- what a collection is asked that takes one
rows_taken : (name : List ℕ) (written : List PartRow) (w : World)
    → may_copy (part name written) w ≡ true
    → (c : Held) → named w.collections name ≡ Some c → are_copied_rows written c ≡ true
rows_taken name written w is c at =
    (and_parts (nat_lt 0 (length written)) (are_copied_rows written c)
    (sym (ap (λ o. option_map_or (takes_part written) o false) at) ∙ is)).1

made_part : (name : List ℕ) (written : List PartRow) (w : World)
    → may_copy (part name written) w ≡ true
    → IsMadeWorld w → IsMadeWorld (copy_step (part name written) w)
made_part name written w is made =
    let f = with_part written in
    let after = change_named w.collections name f in
    record {
      lawful = all_change_named IsLawfulAt w.collections name f
          (λ c at here. record {
            called = with_rows-name c (part_rows c.name written) ∙ here.called;
            lawful = part_lawful written c here.lawful (rows_taken name written w is c at);
          }) made.lawful;
      valid = all_change_named (λ k c. AreValid c) w.collections name f
          (λ c at here. part_valid written c here (rows_taken name written w is c at)) made.valid;
      spelled = all_change_named (λ k c. IsSpelled c) w.collections name f
          (λ c at here. subst (λ s. schema_in (canonical_text s) ≡ Some s)
          (sym (part-schema written c)) here) made.spelled;
      distinct =
          subst (IsDistinct bytes_eq) (sym (keys-change_named f w.collections name)) made.distinct;
      linked = record {
        each = links_stay w.collections after
            (stay_part w.collections name written) w.replications made.linked.each;
        apart = made.linked.apart;
      };
      forest = made.forest;
      collection_names = subst (AreNames max_collections)
          (sym (keys-change_named f w.collections name)) made.collection_names;
      replication_names = made.replication_names;
    }

-- ---- a known part

-- its replication stays linked
known_link : (name : List ℕ) (known : List State) (up down : Option Place) (w : World)
    → may_copy (known_part name known up down) w ≡ true → IsOrderedKnown known up down
    → (r : Replication) → named w.replications name ≡ Some r → IsLinked w.collections name r
    → IsLinked w.collections name (with_exchange known up down r)
known_link name known up down w is ordered r at l =
    let here : takes_known w.collections known up down r ≡ true =
    sym (ap (λ o. option_map_or (takes_known w.collections known up down) o false) at) ∙ is in
    let last = (and_parts (stays_or_rises r.side.up up && stays_or_rises r.side.down down)
    (option_map_or (are_copied_states known r.side.known) (named w.collections r.fork) false)
    here).1 in
    record {
      called = l.called;
      fork = l.fork;
      held = l.held;
      master = l.master;
      by_key = learnt_by_key known r.side.known l.by_key;
      valid = states_valid l.fork known r.side.known
          (sym (ap (λ o. option_map_or (are_copied_states known r.side.known) o false) l.held)
          ∙ last) l.valid;
      up_has_time = ordered.up_has_time;
      down_has_time = ordered.down_has_time;
    }

made_known : (name : List ℕ) (known : List State) (up down : Option Place) (w : World)
    → may_copy (known_part name known up down) w ≡ true → IsOrderedKnown known up down
    → IsMadeWorld w → IsMadeWorld (copy_step (known_part name known up down) w)
made_known name known up down w is ordered made = record {
  lawful = made.lawful;
  valid = made.valid;
  spelled = made.spelled;
  distinct = made.distinct;
  linked = record {
    each = all_change_named (λ k x. IsLinked w.collections k x) w.replications name
        (with_exchange known up down)
        (λ r at here. known_link name known up down w is ordered r at here) made.linked.each;
    apart = subst (IsDistinct bytes_eq)
        (sym (forks_changed (with_exchange known up down) (λ r. refl) w.replications name))
        made.linked.apart;
  };
  forest = subst (λ (es : Forks). is_forest bytes_eq es ≡ true)
      (sym (forks_kept known up down w.replications name)) made.forest;
  collection_names = made.collection_names;
  replication_names = subst (AreNames max_replications)
      (sym (keys-change_named (with_exchange known up down) w.replications name))
      made.replication_names;
}

-- ---- any record of a copy

pub made_copied : (entry : Content) (w : World) → may_copy entry w ≡ true → IsOrdered entry
    → IsMadeWorld w → IsMadeWorld (copy_step entry w)
made_copied (collection name schema) w is ordered made =
    made_step (collection name schema) w is ordered made
made_copied (replication name fork master handler field) w is ordered made =
    made_step (replication name fork master handler field) w is ordered made
made_copied (part name written) w is ordered made = made_part name written w is made
made_copied (known_part name known up down) w is ordered made =
    made_known name known up down w is ordered made
made_copied (end number) w is ordered made = record {
  lawful = made.lawful;
  valid = made.valid;
  spelled = made.spelled;
  distinct = made.distinct;
  linked = record { each = made.linked.each; apart = made.linked.apart };
  forest = made.forest;
  collection_names = made.collection_names;
  replication_names = made.replication_names;
}
made_copied (rows name lwt written) w is ordered made = absurd (true≢false (sym is))
made_copied (exchange name lwt written known up down) w is ordered made =
    absurd (true≢false (sym is))
made_copied (epoch number) w is ordered made = absurd (true≢false (sym is))
made_copied (migration name schema steps) w is ordered made = absurd (true≢false (sym is))
