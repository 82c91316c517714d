-- What is legal of a new replication.
use Rattle.std.proofs.Common.{◌≡◌, ℕ, ◌<◌, ◌&&◌, Bool, true, false, true≢false, List, length, Some, None, is_none, nat_lt, refl, sym, ltb-true}
use Rattle.std.proofs.lemmas.Bool.{and_parts}
use Rattle.std.specs.Option.{option_map_or}
use Rattle.rx_value.specs.Name.{is_name}
use Rattle.rx_value.specs.Named.{named}
use Rattle.rx_value.proofs.Outcomes.{none_is}
use Rattle.rx_collection.specs.Held.{Held}
use Rattle.rx_record.specs.declared.record.MasterName.{MasterName}
use Rattle.rx_world.specs.Chain.{may_follow}
use Rattle.rx_world.specs.Replicating.{is_fitting}
use Rattle.rx_world.specs.Step.{may_begin}
use Rattle.rx_world.specs.World.{World, max_replications}

-- what is legal of it
pub record Begins (name fork : List ℕ) (master : MasterName) (w : World) : Type 0 where
  pub free : named w.replications name ≡ None
  pub fork_held : Held
  pub held : named w.collections fork ≡ Some fork_held
  pub fits : is_fitting w.collections master fork_held ≡ true
  pub follows : may_follow w.replications fork master ≡ true
  pub called : is_name name ≡ true
  pub room : length w.replications < max_replications

pub begins : (name fork : List ℕ) (master : MasterName) (w : World)
    → may_begin name fork master w ≡ true
    → Begins name fork master w
begins name fork master w is =
    let fits : Held → Bool = is_fitting w.collections master in
    let a = is_name name in
    let b = is_none (named w.replications name) in
    let d = option_map_or fits (named w.collections fork) false in
    let e = may_follow w.replications fork master in
    let g = nat_lt (length w.replications) max_replications in
    let four = and_parts (a && b && d && e) g is in
    let three = and_parts (a && b && d) e four.0 in
    let two = and_parts (a && b) d three.0 in
    let one = and_parts a b two.0 in
    let free = none_is (named w.replications name) one.1 in
    let room = ltb-true (length w.replications) max_replications four.1 in
    elim (named w.collections fork) as (λ o. named w.collections fork ≡ o
    → option_map_or fits o false ≡ true → Begins name fork master w) [
      | None ↦ (λ at no. absurd (true≢false (sym no)))
      | Some c ↦ (λ at yes. record {
        free = free;
        fork_held = c;
        held = at;
        fits = yes;
        follows = three.1;
        called = one.0;
        room = room;
      })
    ] refl two.1
