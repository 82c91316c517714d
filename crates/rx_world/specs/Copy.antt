-- Records of a copy: a journal of the second version begins with those that make the world that it
-- is a copy of. They are legal nowhere else.
use Rattle.std.specs.Prelude.{ℕ, List, String, [], ◌∷◌, map, length, Bool, true, false, not, ◌&&◌, nat_lt, nat_le, if◌then◌else◌, Option, Some, None, is_some, is_none, Result, Ok, Err}
use Rattle.std.specs.declared.alloc.Global.{Global}
use Rattle.std.specs.List.{list_any}
use Rattle.std.specs.Option.{option_map_or}
use Rattle.rx_value.specs.Named.{named, put_in_order, change_named}
use Rattle.rx_value.specs.declared.state.State.{State}
use Rattle.rx_document.specs.Documents.{Documents}
use Rattle.rx_document.specs.declared.place.Place.{Place}
use Rattle.rx_document.specs.declared.stored.Stored.{Stored}
use Rattle.rx_collection.specs.Commit.{with_row, with_rows}
use Rattle.rx_collection.specs.Held.{Held}
use Rattle.rx_collection.specs.Since.{place_of, is_above}
use Rattle.rx_collection.specs.Time.{most_lwt}
use Rattle.rx_collection.specs.declared.holder.Plain.{Plain}
use Rattle.rx_meta.specs.Side.{is_above_known}
use Rattle.rx_record.specs.Content.{Content, collection, replication, part, known_part, end, record_of}
use Rattle.rx_record.specs.PartRows.{row_place}
use Rattle.rx_record.specs.declared.at.At.{At}
use Rattle.rx_record.specs.declared.record.PartRow.{PartRow}
use Rattle.rx_replication.specs.Known.{KnownStates}
use Rattle.rx_world.specs.Holders.{Holders, AreWhole, world_in}
use Rattle.rx_world.specs.Replay.{replay_from}
use Rattle.rx_world.specs.Replicating.{with_exchange, stays_or_rises}
use Rattle.rx_world.specs.Step.{is_valid_state, legal, step}
use Rattle.rx_world.specs.World.{World, Collections}
use Rattle.rx_world.specs.declared.replication.Replication.{Replication}

-- the greatest epoch of a copy, 2^52
abbrev pub most_copied_epoch : ℕ
most_copied_epoch = 4503599627370496

-- ---- worlds without observers, in which a copy is made

abbrev pub plain_world : Holders Plain → World
plain_world h = world_in (λ (p : Plain). p.collection) h

-- each holder is whole
abbrev pub ArePlain : List (String Global × Plain) → Type 0
ArePlain es = AreWhole (λ (p : Plain). p.collection) (λ (p : Plain). p.broken) es

-- ---- what a record does

-- a row as its collection stores it: the collection's name is its token
abbrev pub part_stored : List ℕ → PartRow → Stored
part_stored name row = record {
  state = row.state;
  rev = record { height = row.height; token = name };
  lwt = row.lwt;
}

abbrev pub part_rows : List ℕ → List PartRow → List Stored
part_rows name written = map (part_stored name) written

-- a collection with the rows of a part, each written at its own time
abbrev pub with_part : List PartRow → Held → Held
with_part written c = with_rows c (part_rows c.name written)

-- the world after a record: a part gives the rows to its collection, a known part gives the states
-- and the checkpoints to its replication, and the end gives the epoch
abbrev pub copy_step : Content → World → World
copy_step (part name written) w =
    record w { collections = change_named w.collections name (with_part written) }
copy_step (known_part name known up down) w =
    record w { replications = change_named w.replications name (with_exchange known up down) }
copy_step (end number) w = record w { epoch = number }
copy_step other w = step other w

-- ---- where a record may stand

-- no document stands above the place
abbrev pub none_above : Documents → Place → Bool
none_above documents place = not (list_any (λ e. is_above (Some place) (place_of e.1)) documents)

-- the row's key isn't held, its place is above all held, its height is from 1 to its write time,
-- which is in range, and its state is valid
abbrev pub is_copied_row : Held → PartRow → Bool
is_copied_row c row =
    is_none (named c.documents row.state.key) && none_above c.documents (row_place row)
    && nat_le 1 row.height && nat_le row.height row.lwt && nat_le row.lwt most_lwt
    && is_valid_state c.schema row.state

-- each row in turn
abbrev pub are_copied_rows : List PartRow → Held → Bool
are_copied_rows [] c = true
are_copied_rows (row ∷ rows) c =
    is_copied_row c row && are_copied_rows rows (with_row c (part_stored c.name row))

-- a collection takes the rows of a part, of which there is one at least
abbrev pub takes_part : List PartRow → Held → Bool
takes_part written c = nat_lt 0 (length written) && are_copied_rows written c

-- the state is valid, the fork holds its key, and the key is above those known
abbrev pub is_copied_state : Held → KnownStates → State → Bool
is_copied_state fork known s =
    is_valid_state fork.schema s && is_some (named fork.documents s.key)
    && is_above_known known s.key

-- each state in turn
abbrev pub are_copied_states : List State → KnownStates → Held → Bool
are_copied_states [] known fork = true
are_copied_states (s ∷ ss) known fork =
    is_copied_state fork known s && are_copied_states ss (put_in_order known s.key s) fork

-- a replication takes known states and checkpoints, of which none falls
abbrev pub takes_known : Collections → List State → Option Place → Option Place → Replication → Bool
takes_known cs known up down r =
    stays_or_rises r.side.up up && stays_or_rises r.side.down down
    && option_map_or (are_copied_states known r.side.known) (named cs r.fork) false

-- A collection or a replication may stand in a copy where it is legal. A part may where its
-- collection is held and takes it, a known part where its replication is held and takes it, and the
-- end where its epoch isn't too great. No other record may.
abbrev pub may_copy : Content → World → Bool
may_copy (collection name schema) w = legal (collection name schema) w
may_copy (replication name fork master handler field) w =
    legal (replication name fork master handler field) w
may_copy (part name written) w = option_map_or (takes_part written) (named w.collections name) false
may_copy (known_part name known up down) w =
    option_map_or (takes_known w.collections known up down) (named w.replications name) false
may_copy (end number) w = nat_le number most_copied_epoch
may_copy other w = false

-- ---- the bodies of a file of the second version

-- the world after a body of a copy, where it is a record and may stand there
abbrev pub after_copied : Result Content At → World → Option World
after_copied (Ok c) w = if may_copy c w then Some (copy_step c w) else None
after_copied (Err place) w = None

-- the body is the end of a copy
abbrev pub is_end : Result Content At → Bool
is_end (Ok (end number)) = true
is_end other = false

-- the world after bodies: those of a copy, its end, and then those of a run
unfoldable pub replay_copy : Option World → List (List ℕ) → Option World
replay_copy None bodies = None
replay_copy (Some w) [] = None
replay_copy (Some w) (body ∷ bodies) =
    if is_end (record_of body) then replay_from (after_copied (record_of body) w) bodies
    else replay_copy (after_copied (record_of body) w) bodies
