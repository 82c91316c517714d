-- The names of collections and replications stay names, not too many, and apart.
use Rattle.std.proofs.Common.{◌≡◌, ℕ, ◌<◌, ◌≤◌, suc, true, false, cond, List, [], ◌∷◌, length, Option, Some, None, sym, refl, ap, subst, arith}
use Rattle.std.specs.List.{AllByRecursion, IsDistinct}
use Rattle.std.specs.Map.{keys_of}
use Rattle.std.specs.Option.{option_map_or}
use Rattle.std.specs.Str.{bytes_eq}
use Rattle.rx_value.specs.Name.{is_name}
use Rattle.rx_value.specs.Named.{named, put_named}
use Rattle.rx_collection.specs.Held.{held_with}
use Rattle.rx_record.specs.Content.{Content, collection, rows, replication, exchange, migration}
use Rattle.rx_record.specs.declared.record.RowOut.{RowOut}
use Rattle.rx_world.specs.Names.{AreNames}
use Rattle.rx_world.specs.Replicating.{new_replication, with_exchange}
use Rattle.rx_world.specs.Step.{legal, step, collections_after, written_to}
use Rattle.rx_world.specs.Touch.{IsNoMigration, no_collection, new_where, fork_rows}
use Rattle.rx_world.specs.World.{World, max_collections, max_replications}
use Rattle.rx_world.specs.declared.replication.Replication.{Replication}
use Rattle.rx_world.proofs.Beginning.{begins}
use Rattle.rx_world.proofs.Looked.{distinct_put_named, keys-change_named}
use Rattle.rx_world.proofs.Steps.{collection_new, rows_names}

pub names_none : (most : ℕ) → AreNames most []
unfolding IsDistinct
names_none most = record { each = tt; few = omega arith; distinct = tt }

module _ {X : Type 0} where
  -- one name more at most
  few_put : (es : List (List ℕ × X)) (k : List ℕ) (x : X)
      → length (keys_of (put_named es k x)) ≤ suc (length es)
  few_put [] k x = omega arith
  few_put (e ∷ es) k x =
      let later = few_put es k x in
      let same = keys_count es in
      elim (bytes_eq k e.0)
      as (λ b. length (keys_of (cond b ((e.0, x) ∷ es) (e ∷ put_named es k x)))
      ≤ suc (suc (length es))) [ true ↦ omega arith | false ↦ omega arith ]
    where
      keys_count : (es : List (List ℕ × X)) → length (keys_of es) ≡ length es
      keys_count [] = refl
      keys_count (e ∷ es) = ap suc (keys_count es)

  each_put : (es : List (List ℕ × X)) (k : List ℕ) (x : X) → is_name k ≡ true
      → AllByRecursion (λ n. is_name n ≡ true) (keys_of es)
      → AllByRecursion (λ n. is_name n ≡ true) (keys_of (put_named es k x))
  each_put [] k x here all = (here, tt)
  each_put (e ∷ es) k x here all =
      elim (bytes_eq k e.0) as (λ b. AllByRecursion (λ n. is_name n ≡ true)
      (keys_of (cond b ((e.0, x) ∷ es) (e ∷ put_named es k x))))
      [ true ↦ all | false ↦ (all.0, each_put es k x here all.1) ]

  -- where there is room for a name
  pub names_put : (most : ℕ) (es : List (List ℕ × X)) (k : List ℕ) (x : X) → is_name k ≡ true
      → length es < most → AreNames most (keys_of es) → AreNames most (keys_of (put_named es k x))
  names_put most es k x here room names =
      let few = few_put es k x in
      record {
        each = each_put es k x here names.each;
        few = omega arith;
        distinct = distinct_put_named es k x names.distinct;
      }

fork_named : (lwt : ℕ) (written : List RowOut) (w : World)
    → AreNames max_collections (keys_of w.collections)
    → (o : Option Replication) → AreNames max_collections
    (keys_of
    (collections_after (option_map_or (fork_rows lwt written) o no_collection) w.collections))
fork_named lwt written w names None = names
fork_named lwt [] w names (Some r) = names
fork_named lwt (row ∷ written) w names (Some r) =
    subst (AreNames max_collections)
    (sym (keys-change_named (written_to lwt (row ∷ written)) w.collections r.fork)) names

-- those of collections after a legal record that is no migration
pub collections_named : (entry : Content) (w : World) → legal entry w ≡ true → IsNoMigration entry
    → AreNames max_collections (keys_of w.collections)
    → AreNames max_collections (keys_of (step entry w).collections)
collections_named (collection name schema) w is other names =
    let new = collection_new name schema w is in
    subst (λ o.
    AreNames max_collections (keys_of (collections_after (new_where name o) w.collections)))
    (sym new.read)
    (names_put max_collections w.collections name
    (held_with name new.shape []) new.called new.room names)
collections_named (rows name lwt written) w is other names =
    subst (AreNames max_collections) (sym (rows_names name lwt written w)) names
collections_named (replication name fork master handler field) w is other names = names
collections_named (exchange name lwt written known up down) w is other names =
    fork_named lwt written w names (named w.replications name)
collections_named (migration name text steps) w is other names = absurd other
collections_named entry w is other names = names

-- those of replications
pub replications_named : (entry : Content) (w : World) → legal entry w ≡ true → IsNoMigration entry
    → AreNames max_replications (keys_of w.replications)
    → AreNames max_replications (keys_of (step entry w).replications)
replications_named (replication name fork master handler field) w is other names =
    let b = begins name fork master w is in
    names_put max_replications w.replications name
    (new_replication name fork master handler field) b.called b.room names
replications_named (exchange name lwt written known up down) w is other names =
    subst (AreNames max_replications)
    (sym (keys-change_named (with_exchange known up down) w.replications name)) names
replications_named (migration name text steps) w is other names = absurd other
replications_named entry w is other names = names
