-- What a record touches of the collections.
use Rattle.std.specs.Prelude.{ℕ, List, [], ◌∷◌, Bool, Option, Some, None}
use Rattle.std.specs.Option.{option_map_or}
use Rattle.rx_value.specs.Named.{named}
use Rattle.rx_schema.specs.declared.shape.Shape.{Shape}
use Rattle.rx_migrate.specs.declared.step.Step.{Step}
use Rattle.rx_record.specs.Content.{Content, collection, rows, replication, exchange, migration}
use Rattle.rx_record.specs.declared.record.RowOut.{RowOut}
use Rattle.rx_world.specs.Migrating.{is_in_group}
use Rattle.rx_world.specs.Schema.{schema_in}
use Rattle.rx_world.specs.World.{World, Replications}
use Rattle.rx_world.specs.declared.replication.Replication.{Replication}

-- none of them, a new one of that name and schema, the one of that name, into which rows go that
-- were written at that time, or those of a group of names, which go to that schema by those steps
pub data Touch : Type 0 where
  no_collection : Touch
  new_collection : (name : List ℕ) (schema : Shape) → Touch
  new_rows : (name : List ℕ) (lwt : ℕ) (written : List RowOut) → Touch
  remade : (in_group : List ℕ → Bool) (schema : Shape) (steps : List Step) → Touch

-- a new one, where there is a schema
abbrev pub new_where : List ℕ → Option Shape → Touch
new_where name None = no_collection
new_where name (Some s) = new_collection name s

-- the fork of a replication, where there is a row
abbrev pub fork_rows : ℕ → List RowOut → Replication → Touch
fork_rows lwt [] r = no_collection
fork_rows lwt (row ∷ written) r = new_rows r.fork lwt (row ∷ written)

-- that of the replication of a name
abbrev pub exchange_touch : ℕ → List RowOut → List ℕ → Replications → Touch
exchange_touch lwt written name rs = option_map_or (fork_rows lwt written) (named rs name)
    no_collection

-- a group of names, where there is a schema
abbrev pub remade_where : (List ℕ → Bool) → List Step → Option Shape → Touch
remade_where in_group steps None = no_collection
remade_where in_group steps (Some s) = remade in_group s steps

-- in a world, whose replications tell the fork of an exchange and the group of a migration
abbrev pub touch : Content → World → Touch
touch (collection name schema) w = new_where name (schema_in schema)
touch (rows name lwt written) w = new_rows name lwt written
touch (replication name fork master handler field) w = no_collection
touch (exchange name lwt written known up down) w = exchange_touch lwt written name w.replications
touch (migration name text steps) w =
    remade_where (is_in_group w.replications name) steps (schema_in text)
touch other w = no_collection

-- the record is one of a migration
abbrev pub IsMigration : Content → Type 0
IsMigration (migration name text steps) = Unit {0}
IsMigration other = ⊥

-- it is none, so that documents keep their states
abbrev pub IsNoMigration : Content → Type 0
IsNoMigration (migration name text steps) = ⊥
IsNoMigration other = Unit {0}

-- it is none of an exchange, the kind that tells a replication what is known
abbrev pub IsNoExchange : Content → Type 0
IsNoExchange (exchange name lwt written known up down) = ⊥
IsNoExchange other = Unit {0}
