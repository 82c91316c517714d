-- What is remembered of requests after a migration.
use Rattle.std.proofs.Common.{◌≡◌, ◌∙◌, ℕ, suc, ◌<◌, ◌++◌, Bool, true, false, cond, List, [], ◌∷◌, map, length, set, take, drop, zero, Option, Some, String, Global, string_bytes, option_map, refl, sym, ap, subst}
use Rattle.std.specs.List.{slice_get}
use Rattle.std.specs.Map.{values_of}
use Rattle.std.specs.Option.{ForSome, option_map_or}
use Rattle.indexmap.specs.IndexMap.{set_value_at}
use Rattle.rx_value.specs.Named.{by_bytes, named}
use Rattle.rx_value.proofs.Outcomes.{not_none, some_same}
use Rattle.rx_collection.specs.Held.{Held}
use Rattle.rx_collection.specs.Migrated.{migrated_collection}
use Rattle.rx_migrate.specs.declared.step.Step.{Step}
use Rattle.rx_record.specs.Content.{Content, migration}
use Rattle.rx_record.specs.Shown.{content}
use Rattle.rx_record.specs.declared.record.Record.{Record}
use Rattle.rx_record.specs.declared.record.Record.TheVariants as owned
use Rattle.rx_schema.specs.declared.shape.Shape.{Shape}
use Rattle.rx_sync.specs.Asks.{Asks, forgotten}
use Rattle.rx_world.specs.Migrating.{is_in_group, migrate_step, migrated_replication}
use Rattle.rx_world.specs.Step.{legal, step}
use Rattle.rx_world.specs.Touch.{IsMigration}
use Rattle.rx_world.specs.World.{World}
use Rattle.rx_world.specs.declared.replication.Replication.{Replication}
use Rattle.rx_world.proofs.Migrates.{legal_migration, migrates}
use Rattle.rx_world.proofs.Regrouped.{entry_at, length_set, turn}
use Rattle.rx_world.proofs.Settled.{group_named, replication_named}
use Rattle.rx_engine.specs.Remembered.{AreRemembered, IsRemembered}
use Rattle.rx_engine.specs.Standing.{asks_after, forgotten_where, is_of_group}

-- ---- one after another

-- those so far are forgotten where that is asked for, and with the others so all will be
pub record AreForgotten (chosen : List ℕ → Bool) (old now : List (List ℕ × Asks))
    (i : ℕ) : Type 0 where
  pub turned : take i now ++ map (forgotten_where chosen) (drop i now)
      ≡ map (forgotten_where chosen) old
  pub same : length now ≡ length old

pub next_forgotten : (chosen : List ℕ → Bool) (old now new : List (List ℕ × Asks)) (i : ℕ)
    → i < length now → AreForgotten chosen old now i
    → ForSome (slice_get now i) (λ e. new ≡ set now i (forgotten_where chosen e))
    → AreForgotten chosen old new (suc i)
next_forgotten chosen old now new i within so_far written =
    let e = entry_at now i within in
    let is : new ≡ set now i (forgotten_where chosen e.0) = written e.0 e.1 in
    record {
      turned = ap (λ (xs : List (List ℕ × Asks)).
          take (suc i) xs ++ map (forgotten_where chosen) (drop (suc i) xs)) is
          ∙ turn (forgotten_where chosen) now i e.0 e.1 ∙ so_far.turned;
      same = ap (λ (xs : List (List ℕ × Asks)). length xs) is
          ∙ length_set now i (forgotten_where chosen e.0) ∙ so_far.same;
    }

-- any other record leaves all
pub none_forgotten : (entry : Record) (w : World) (asks : List (List ℕ × Asks))
    → ((name schema : List ℕ) (steps : List Step) → entry ≡ owned.Migration name schema steps → ⊥)
    → asks_after (content entry) w asks ≡ asks
none_forgotten (owned.Migration name schema steps) w asks other =
    absurd (other name schema steps refl)
none_forgotten entry w asks other = refl

-- those at a place, by its name and its value
pub entry_is : (es : List (String Global × Asks)) (i : ℕ) (v : Asks) (e : List ℕ × Asks)
    → slice_get (values_of es) i ≡ Some v → slice_get (by_bytes es) i ≡ Some e → v ≡ e.1
entry_is [] i v e at there = not_none at
entry_is (x ∷ es) zero v e at there =
    sym (some_same at) ∙ ap (λ (y : List ℕ × Asks). y.1) (some_same there)
entry_is (x ∷ es) (suc i) v e at there = entry_is es i v e at there

pub by_bytes_set : (es : List (String Global × Asks)) (i : ℕ) (v : Asks) (e : List ℕ × Asks)
    → slice_get (by_bytes es) i ≡ Some e
    → by_bytes (set_value_at es i v) ≡ set (by_bytes es) i (e.0, v)
by_bytes_set [] i v e there = not_none there
by_bytes_set (x ∷ es) zero v e there =
    ap (λ (y : List ℕ × Asks). (y.0, v) ∷ by_bytes es) (some_same there)
by_bytes_set (x ∷ es) (suc i) v e there =
    ap (λ (l : List (List ℕ × Asks)). (string_bytes x.0, x.1) ∷ l) (by_bytes_set es i v e there)

pub called_is : (es : List (String Global × Asks)) (i : ℕ) (x : String Global × Asks)
    (e : List ℕ × Asks)
    → slice_get es i ≡ Some x → slice_get (by_bytes es) i ≡ Some e → string_bytes x.0 ≡ e.0
called_is [] i x e at there = not_none at
called_is (y ∷ es) zero x e at there =
    ap (λ (z : String Global × Asks). string_bytes z.0) (sym (some_same at))
    ∙ ap (λ (z : List ℕ × Asks). z.0) (some_same there)
called_is (y ∷ es) (suc i) x e at there = called_is es i x e at there

-- ---- they stay lawful

module _ (w : World) (name : List ℕ) (s : Shape) (steps : List Step) where
  abbrev G : List ℕ → Bool
  G = is_in_group w.replications name

  abbrev then : World
  then = migrate_step name s steps w

  -- whether the requests of a replication are those of the group
  chosen_is : (called : List ℕ) (r : Replication) → named w.replications called ≡ Some r
      → is_of_group G w.replications called ≡ G r.fork
  chosen_is called r at =
      ap (λ (o : Option Replication). option_map_or (λ (x : Replication). G x.fork) o false) at

  -- the replication and its fork are held after it
  remembered_as : (called : List ℕ) (a b : Asks) (m : IsRemembered w called a) (in_group : Bool)
      → G m.replication.fork ≡ in_group → b ≡ cond in_group (forgotten a) a
      → IsRemembered then called b
  remembered_as called a b m true is same =
      let r = m.replication in
      record {
        replication = migrated_replication steps r;
        held = replication_named steps G w.replications called
            ∙ ap (option_map
            (λ (x : Replication). cond (G x.fork) (migrated_replication steps x) x)) m.held
            ∙ ap (λ c. Some (cond c (migrated_replication steps r) r)) is;
        fork = migrated_collection s steps m.fork;
        fork_held = group_named steps s G w.collections r.fork
            ∙ ap (option_map (λ (x : Held). cond (G r.fork) (migrated_collection s steps x) x))
            m.fork_held
            ∙ ap (λ c. Some (cond c (migrated_collection s steps m.fork) m.fork)) is;
        lawful = rw same tt;
      }
  remembered_as called a b m false is same =
      let r = m.replication in
      record {
        replication = r;
        held = replication_named steps G w.replications called
            ∙ ap (option_map
            (λ (x : Replication). cond (G x.fork) (migrated_replication steps x) x)) m.held
            ∙ ap (λ c. Some (cond c (migrated_replication steps r) r)) is;
        fork = m.fork;
        fork_held = group_named steps s G w.collections r.fork
            ∙ ap (option_map (λ (x : Held). cond (G r.fork) (migrated_collection s steps x) x))
            m.fork_held
            ∙ ap (λ c. Some (cond c (migrated_collection s steps m.fork) m.fork)) is;
        lawful = rw same m.lawful;
      }

  remembered_one : (e : List ℕ × Asks) → IsRemembered w e.0 e.1
      → IsRemembered then (forgotten_where (is_of_group G w.replications) e).0
      (forgotten_where (is_of_group G w.replications) e).1
  remembered_one e m =
      let r = m.replication in
      subst (λ c.
      IsRemembered then (cond c (e.0, forgotten e.1) e).0 (cond c (e.0, forgotten e.1) e).1)
      (sym (chosen_is e.0 r m.held))
      (elim (G r.fork) as (λ c. G r.fork ≡ c
      → IsRemembered then (cond c (e.0, forgotten e.1) e).0 (cond c (e.0, forgotten e.1) e).1) [
        | true ↦ (λ is. remembered_as e.0 e.1 (forgotten e.1) m true is refl)
        | false ↦ (λ is. remembered_as e.0 e.1 e.1 m false is refl)
      ] refl)

  remembered_all : (asks : List (List ℕ × Asks)) → AreRemembered w asks
      → AreRemembered then (map (forgotten_where (is_of_group G w.replications)) asks)
  remembered_all [] all = tt
  remembered_all (e ∷ es) all = (remembered_one e all.0, remembered_all es all.1)

-- after the record of a migration
pub remembered_migrated : (c : Content) (w : World) (asks : List (List ℕ × Asks)) → legal c w ≡ true
    → IsMigration c → AreRemembered w asks → AreRemembered (step c w) (asks_after c w asks)
remembered_migrated (migration name text steps) w asks may is all =
    let m = legal_migration name text steps w may in
    subst (λ (v : World). AreRemembered v (asks_after (migration name text steps) w asks))
    (sym (migrates name text m.schema steps w m.read))
    (remembered_all w name m.schema steps asks all)
remembered_migrated other w asks may is all = absurd is
