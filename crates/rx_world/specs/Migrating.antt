-- A migration: a collection and all that local replications join to it go to the next version of
-- their schema.
use Rattle.std.specs.Prelude.{ℕ, ◌+◌, ◌==◌, List, map, Bool, true, false, not, ◌&&◌, ◌||◌, if◌then◌else◌}
use Rattle.std.specs.List.{list_all}
use Rattle.std.specs.Option.{option_map_or}
use Rattle.std.specs.Str.{bytes_eq}
use Rattle.rx_value.specs.Named.{named}
use Rattle.rx_value.specs.declared.state.State.{State}
use Rattle.rx_schema.specs.declared.shape.Shape.{Shape}
use Rattle.rx_collection.specs.Held.{Held}
use Rattle.rx_collection.specs.Migrated.{migrated_collection}
use Rattle.rx_meta.specs.Migrated.{known_after}
use Rattle.rx_meta.specs.Side.{side_with}
use Rattle.rx_migrate.specs.Migrated.{migrated}
use Rattle.rx_migrate.specs.Step.{is_named}
use Rattle.rx_migrate.specs.declared.step.Step.{Step}
use Rattle.rx_record.specs.declared.record.MasterName.{MasterName}
use Rattle.rx_record.specs.declared.record.MasterName.TheVariants.{Local, Port}
use Rattle.rx_tree.specs.Forest.{are_joined}
use Rattle.rx_world.specs.Chain.{forest_of}
use Rattle.rx_world.specs.Schema.{schema_in}
use Rattle.rx_world.specs.ValidState.{is_valid_state}
use Rattle.rx_world.specs.World.{World, Collections, Replications}
use Rattle.rx_world.specs.declared.replication.Replication.{Replication}

-- a collection is of the group of another one: local replications join them
abbrev pub is_in_group : Replications → List ℕ → List ℕ → Bool
is_in_group rs name other = are_joined bytes_eq (forest_of rs) name other

-- ---- what it does

-- a replication with its known states after the steps
abbrev pub migrated_replication : List Step → Replication → Replication
migrated_replication steps r =
    record r { side = side_with (known_after steps r.side.known) r.side.up r.side.down }

-- with its name, where it is of a group
abbrev pub migrated_entry : (List ℕ → Bool) → List Step → List ℕ × Replication
    → List ℕ × Replication
migrated_entry in_group steps e =
    if in_group e.1.fork then (e.0, migrated_replication steps e.1) else e

-- those of a group
abbrev pub migrated_collections : (List ℕ → Bool) → Shape → List Step → Collections → Collections
migrated_collections in_group schema steps cs =
    map (λ e. if in_group e.0 then (e.0, migrated_collection schema steps e.1) else e) cs

abbrev pub migrated_replications : (List ℕ → Bool) → List Step → Replications → Replications
migrated_replications in_group steps rs = map (migrated_entry in_group steps) rs

-- the world after it
abbrev pub migrate_step : List ℕ → Shape → List Step → World → World
migrate_step name schema steps w = record w {
  collections = migrated_collections (is_in_group w.replications name) schema steps w.collections;
  replications = migrated_replications (is_in_group w.replications name) steps w.replications;
}

-- ---- where it is legal

-- the state has one after the steps, which is valid by the schema
abbrev pub state_migrates : Shape → List Step → State → Bool
state_migrates schema steps s = option_map_or (is_valid_state schema) (migrated steps s) false

-- each document's state does
abbrev pub documents_migrate : Shape → List Step → Held → Bool
documents_migrate schema steps c =
    list_all (λ e. state_migrates schema steps e.1.state) c.documents

-- the master is in this journal
abbrev pub is_local : MasterName → Bool
is_local (Local name) = true
is_local (Port port) = false

-- the master is in this journal, and each known state migrates
abbrev pub replication_migrates : Shape → List Step → Replication → Bool
replication_migrates schema steps r =
    is_local r.master && list_all (λ e. state_migrates schema steps e.1) r.side.known

-- the schema is of the next version
abbrev pub is_next_version : Shape → Shape → Bool
is_next_version schema old = schema.version == old.version + 1

-- it has the same primary key, which no step names
abbrev pub keeps_primary : Shape → List Step → Shape → Bool
keeps_primary schema steps old =
    bytes_eq schema.primary old.primary && not (is_named old.primary steps)

-- it may come after another one
abbrev pub is_next_schema : Shape → List Step → Shape → Bool
is_next_schema schema steps old = is_next_version schema old && keeps_primary schema steps old

-- a collection isn't of the group, or it migrates
abbrev pub collection_migrates : (List ℕ → Bool) → Shape → List Step → List ℕ × Held → Bool
collection_migrates in_group schema steps e =
    not (in_group e.0) || documents_migrate schema steps e.1

-- each collection of the group migrates
abbrev pub collections_migrate : (List ℕ → Bool) → Shape → List Step → Collections → Bool
collections_migrate in_group schema steps cs =
    list_all (collection_migrates in_group schema steps) cs

-- each replication of it does
abbrev pub replications_migrate : (List ℕ → Bool) → Shape → List Step → Replications → Bool
replications_migrate in_group schema steps rs =
    list_all (λ e. not (in_group e.1.fork) || replication_migrates schema steps e.1) rs

-- all of the group go from one schema to another
abbrev pub group_migrates : List ℕ → Shape → List Step → World → Bool
group_migrates name schema steps w =
    collections_migrate (is_in_group w.replications name) schema steps w.collections
    && replications_migrate (is_in_group w.replications name) schema steps w.replications

-- A migration is legal where its collection is held, its schema's text is canonical, that schema
-- may come next, and the group goes to it.
abbrev pub may_migrate : List ℕ → List ℕ → List Step → World → Bool
may_migrate name text steps w =
    option_map_or (λ c. option_map_or
    (λ schema. is_next_schema schema steps c.schema && group_migrates name schema steps w)
    (schema_in text) false) (named w.collections name) false
