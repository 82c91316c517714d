-- What is reported of a journal.
use Rattle.std.specs.Prelude.{ℕ, List, ◌++◌, length, codes, Bool, Option, None, Some, option_map, unwrap_or, filter}
use Rattle.std.specs.List.{flat_map}
use Rattle.std.specs.Map.{values_of}
use Rattle.serde_json.specs.Data.{Data, member, no_members, object, string}
use Rattle.rx_collection.specs.Held.{Held}
use Rattle.rx_digest.specs.Digest.{digest_of}
use Rattle.rx_document.specs.declared.stored.Stored.{Stored}
use Rattle.rx_record.specs.declared.record.MasterName.{MasterName}
use Rattle.rx_record.specs.declared.record.MasterName.TheVariants.{Local, Port}
use Rattle.rx_reply.specs.Writing.{number_data, optional_member, output_line}
use Rattle.rx_schema.specs.Writing.{hash_text}
use Rattle.rx_sync.specs.Asking.{pending_in}
use Rattle.rx_world.specs.World.{World}
use Rattle.rx_world.specs.declared.replication.Replication.{Replication}

unfoldable pub is_tombstone : Stored → Bool
is_tombstone d = d.state.deleted

-- a collection by its name: how many documents it holds, how many of these are tombstones, and what
-- its states and its schema hash to
abbrev pub counts_data : List ℕ → ℕ → ℕ → List ℕ → List ℕ → Data
counts_data name count deleted digest schema = object
    (member (codes "collection") (string name)
    (member (codes "count") (number_data count)
    (member (codes "deleted") (number_data deleted)
    (member (codes "digest") (string digest)
    (member (codes "schema") (string schema) no_members)))))

-- tombstones count as documents
abbrev pub collection_data : List ℕ → Held → Data
collection_data name c =
    counts_data name (length c.documents) (length (filter is_tombstone (values_of c.documents)))
    (digest_of c.documents) (hash_text c.schema)

-- a master's name, or its port
abbrev pub name_in : MasterName → Option (List ℕ)
name_in (Local name) = Some name
name_in (Port port) = None

abbrev pub port_in : MasterName → Option ℕ
port_in (Local name) = None
port_in (Port port) = Some port

-- a replication by its name: its fork, its master, and how many documents it has to push
abbrev pub replication_data : List ℕ → Replication → ℕ → Data
replication_data name r pending = object
    (member (codes "fork") (string r.fork)
    (optional_member (codes "master") (option_map string (name_in r.master))
    (member (codes "pending") (number_data pending)
    (optional_member (codes "port") (option_map number_data (port_in r.master))
    (member (codes "replication") (string name) no_members)))))

abbrev pub pending_at : World → List ℕ → ℕ
pending_at w name = unwrap_or (pending_in w name) 0

-- where the file ends with its closed gate, the last epoch, and how many records there are
abbrev pub end_data : ℕ → ℕ → ℕ → Data
end_data last epoch records = object
    (member (codes "end") (number_data last)
    (member (codes "epoch") (number_data epoch)
    (member (codes "records") (number_data records) no_members)))

-- the lines of collections
abbrev pub collection_lines : List (List ℕ × Held) → List ℕ
collection_lines cs = flat_map (λ e. output_line (collection_data e.0 e.1)) cs

-- those of replications of a world
abbrev pub replication_lines : World → List (List ℕ × Replication) → List ℕ
replication_lines w rs =
    flat_map (λ e. output_line (replication_data e.0 e.1 (pending_at w e.0))) rs

-- the lines of a world: its collections and its replications in the order of their making, and the
-- end of the file
abbrev pub report_of : World → ℕ → ℕ → List ℕ
report_of w last records =
    collection_lines w.collections ++ replication_lines w w.replications
    ++ output_line (end_data last w.epoch records)
