-- The record of a migration, or the first reason why there is none.
use Rattle.std.specs.Prelude.{⊤, ℕ, List, Bool, not, ◌||◌, Option, option_map, Result, Ok}
use Rattle.std.specs.List.{find, list_all}
use Rattle.rx_value.specs.Due.{◌>>◌, demand, unless}
use Rattle.rx_collection.specs.Held.{Held}
use Rattle.rx_migrate.specs.declared.step.Step.{Step}
use Rattle.rx_record.specs.Content.{Content, migration}
use Rattle.rx_schema.specs.Writing.{canonical_text}
use Rattle.rx_schema.specs.declared.shape.Shape.{Shape}
use Rattle.rx_world.specs.Migrating.{collection_migrates, is_in_group, is_local, is_next_version, keeps_primary, state_migrates}
use Rattle.rx_world.specs.World.{World, Collections, Replications}
use Rattle.rx_world.specs.declared.fault.MigrateFault.{MigrateFault}
use Rattle.rx_world.specs.declared.fault.MigrateFault.TheVariants as fault
use Rattle.rx_world.specs.declared.replication.Replication.{Replication}

-- a replication isn't of the group, or each state that it knows migrates
abbrev pub known_migrates : (List ℕ → Bool) → Shape → List Step → Replication → Bool
known_migrates in_group schema steps r =
    not (in_group r.fork) || list_all (λ e. state_migrates schema steps e.1) r.side.known

-- a replication isn't of the group, or its master is in this journal
abbrev pub is_here : (List ℕ → Bool) → Replication → Bool
is_here in_group r = not (in_group r.fork) || is_local r.master

-- the name of the first collection that doesn't migrate
abbrev pub invalid_collection : (List ℕ → Bool) → Shape → List Step → Collections
    → Option (List ℕ)
invalid_collection in_group schema steps cs =
    option_map (λ e. e.0) (find (λ e. not (collection_migrates in_group schema steps e)) cs)

-- that of the first replication of which a known state doesn't
abbrev pub invalid_replication : (List ℕ → Bool) → Shape → List Step → Replications
    → Option (List ℕ)
invalid_replication in_group schema steps rs =
    option_map (λ e. e.0) (find (λ e. not (known_migrates in_group schema steps e.1)) rs)

-- all documents migrate, and then all known states
abbrev pub states_fit : (List ℕ → Bool) → Shape → List Step → World → Result ⊤ MigrateFault
states_fit in_group schema steps w =
    unless fault.Invalid (invalid_collection in_group schema steps w.collections)
    (unless fault.Invalid (invalid_replication in_group schema steps w.replications) (Ok tt))

-- whether a collection may go to a schema by those steps, with all of its group: the schema is of
-- the next version, the primary key stays, all states fit, and each master is in this journal. The
-- first test that fails decides.
abbrev pub group_fits : (List ℕ → Bool) → Shape → List Step → Held → World → Result ⊤ MigrateFault
group_fits in_group schema steps c w =
    demand (is_next_version schema c.schema) fault.Version >> λ _.
    demand (keeps_primary schema steps c.schema) fault.Primary >> λ _.
    states_fit in_group schema steps w >> λ _.
    demand (list_all (λ e. is_here in_group e.1) w.replications) fault.Remote

-- the record that takes the group of a collection there
abbrev pub migration_of : List ℕ → Shape → List Step → Held → World → Result Content MigrateFault
migration_of name schema steps c w =
    group_fits (is_in_group w.replications name) schema steps c w >> λ _.
    Ok (migration name (canonical_text schema) steps)
