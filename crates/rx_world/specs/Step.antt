-- What a record does to a world, and where it is legal.
use Rattle.std.specs.Prelude.{ℕ, ◌+◌, List, [], ◌∷◌, map, length, Bool, false, ◌&&◌, ◌||◌, ◌==◌, nat_lt, nat_le, if◌then◌else◌, Option, Some, None, is_some, is_none}
use Rattle.std.specs.List.{list_all, list_any}
use Rattle.std.specs.Option.{option_map_or}
use Rattle.std.specs.Str.{bytes_eq}
use Rattle.rx_value.specs.Name.{is_name}
use Rattle.rx_value.specs.Named.{named, put_named, change_named}
use Rattle.rx_value.specs.declared.state.State.{State}
use Rattle.rx_document.specs.declared.place.Place.{Place}
use Rattle.rx_document.specs.declared.stored.Stored.{Stored}
use Rattle.rx_collection.specs.Commit.{next_height, with_rows}
use Rattle.rx_collection.specs.Held.{Held, held_with}
use Rattle.rx_collection.specs.Time.{last_lwt, most_lwt}
use Rattle.rx_record.specs.Content.{Content, collection, rows, replication, exchange, epoch, migration}
use Rattle.rx_record.specs.declared.record.MasterName.{MasterName}
use Rattle.rx_record.specs.declared.record.RowOut.{RowOut}
use Rattle.rx_world.specs.Chain.{may_follow}
use Rattle.rx_world.specs.Migrating.{is_in_group, may_migrate, migrated_collections, migrated_replications}
use Rattle.rx_world.specs.Replicating.{new_replication, with_exchange, is_fitting, stays_or_rises}
use Rattle.rx_world.specs.Schema.{schema_in}
use Rattle.rx_world.specs.Touch.{Touch, no_collection, new_collection, new_rows, remade, touch}
pub use Rattle.rx_world.specs.ValidState.{is_valid_state, IsValidState}
use Rattle.rx_world.specs.World.{World, Collections, Replications, max_collections, max_replications}
use Rattle.rx_world.specs.declared.replication.Replication.{Replication}

-- ---- what a record does

-- a row as its collection stores it: the collection's name is its token
abbrev pub stored_of : List ℕ → ℕ → RowOut → Stored
stored_of name lwt row =
    record { state = row.state; rev = record { height = row.height; token = name }; lwt = lwt }

abbrev pub stored_rows : List ℕ → ℕ → List RowOut → List Stored
stored_rows name lwt written = map (stored_of name lwt) written

-- a collection with the rows of a record, written at that time
abbrev pub written_to : ℕ → List RowOut → Held → Held
written_to lwt written c = with_rows c (stored_rows c.name lwt written)

-- collections with what a record touches
abbrev pub collections_after : Touch → List (List ℕ × Held) → List (List ℕ × Held)
collections_after no_collection cs = cs
collections_after (new_collection name schema) cs = put_named cs name (held_with name schema [])
collections_after (new_rows name lwt written) cs = change_named cs name (written_to lwt written)
collections_after (remade in_group schema steps) cs =
    migrated_collections in_group schema steps cs

-- replications with what a record makes of them: the two kinds that name one change that, and a
-- migration changes those of its group
abbrev pub replications_after : Content → Replications → Replications
replications_after (replication name fork master handler field) rs =
    put_named rs name (new_replication name fork master handler field)
replications_after (exchange name lwt written known up down) rs =
    change_named rs name (with_exchange known up down)
replications_after (migration name text steps) rs =
    migrated_replications (is_in_group rs name) steps rs
replications_after other rs = rs

-- the last epoch, which a record of an epoch alone changes
abbrev pub epoch_after : Content → ℕ → ℕ
epoch_after (epoch number) last = number
epoch_after other last = last

-- the world after a record, field by field
abbrev pub step : Content → World → World
step c w = record {
  collections = collections_after (touch c w) w.collections;
  replications = replications_after c w.replications;
  epoch = epoch_after c w.epoch;
}

-- ---- where a record is legal

-- the row's state is valid, and its height is the next one
abbrev pub is_next_row : Held → RowOut → Bool
is_next_row c row =
    is_valid_state c.schema row.state
    && row.height == next_height (named c.documents row.state.key)

-- there is a row, the write time is above the last one and in range, and each row is due
abbrev pub takes : ℕ → List RowOut → Held → Bool
takes lwt written c =
    nat_lt 0 (length written) && nat_lt (last_lwt c.documents) lwt && nat_le lwt most_lwt
    && list_all (is_next_row c) written

-- the collection takes rows, or there is none and the write time is 0
abbrev pub takes_rows : ℕ → List RowOut → Held → Bool
takes_rows lwt [] c = lwt == 0
takes_rows lwt (row ∷ written) c = takes lwt (row ∷ written) c

-- a row has the key
abbrev pub has_key : List ℕ → List RowOut → Bool
has_key key written = list_any (λ row. bytes_eq row.state.key key) written

-- the state is valid, and its key is held by the collection with the rows
abbrev pub is_held_with : Held → List RowOut → State → Bool
is_held_with c written s =
    is_valid_state c.schema s && (is_some (named c.documents s.key) || has_key s.key written)

-- a fork takes the rows, and then holds the keys of the known states
abbrev pub fork_takes : ℕ → List RowOut → List State → Held → Bool
fork_takes lwt written known c =
    takes_rows lwt written c && list_all (is_held_with c written) known

-- a replication takes an exchange: no checkpoint falls, and its fork takes it
abbrev pub takes_exchange : Collections → ℕ → List RowOut → List State → Option Place → Option Place
    → Replication → Bool
takes_exchange cs lwt written known up down r =
    stays_or_rises r.side.up up && stays_or_rises r.side.down down
    && option_map_or (fork_takes lwt written known) (named cs r.fork) false

-- a replication's name is a name and isn't held, its fork is held and its master fits it, the fork
-- may follow the master, and there is room for it
abbrev pub may_begin : List ℕ → List ℕ → MasterName → World → Bool
may_begin name fork master w =
    is_name name && is_none (named w.replications name)
    && option_map_or (is_fitting w.collections master) (named w.collections fork) false
    && may_follow w.replications fork master
    && nat_lt (length w.replications) max_replications

-- A collection is legal where its name is a name and isn't held, its schema's text is canonical,
-- and there is room for it. Rows are legal where the collection is held and takes them, a
-- replication where it may begin, and an exchange where the replication is held and takes it. An
-- epoch is legal where it is the one after the last, and a migration where its group may go to the
-- schema. The records of a copy are legal nowhere.
abbrev pub legal : Content → World → Bool
legal (collection name schema) w =
    is_name name && is_none (named w.collections name)
    && nat_lt (length w.collections) max_collections && is_some (schema_in schema)
legal (rows name lwt written) w = option_map_or (takes lwt written) (named w.collections name) false
legal (replication name fork master handler field) w = may_begin name fork master w
legal (exchange name lwt written known up down) w =
    option_map_or (takes_exchange w.collections lwt written known up down)
    (named w.replications name) false
legal (epoch number) w = number == w.epoch + 1
legal (migration name text steps) w = may_migrate name text steps w
legal other w = false

-- the world after a record, where it is legal
abbrev pub step_where_legal : Content → World → Option World
step_where_legal c w = if legal c w then Some (step c w) else None
