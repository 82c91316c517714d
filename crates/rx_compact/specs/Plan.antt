-- The records that make a copy of a world.
use Rattle.std.specs.Prelude.{ℕ, zero, suc, List, [], ◌∷◌, ◌++◌, map, length, take, drop, ◌||◌, if◌then◌else◌, None, is_some}
use Rattle.std.specs.List.{flat_map}
use Rattle.std.specs.Map.{values_of}
use Rattle.rx_value.specs.declared.state.State.{State}
use Rattle.rx_document.specs.declared.stored.Stored.{Stored}
use Rattle.rx_schema.specs.Writing.{canonical_text}
use Rattle.rx_collection.specs.Held.{Held}
use Rattle.rx_collection.specs.Since.{since}
use Rattle.rx_record.specs.Content.{Content, collection, replication, part, known_part, end}
use Rattle.rx_record.specs.declared.record.PartRow.{PartRow}
use Rattle.rx_world.specs.World.{World}
use Rattle.rx_world.specs.declared.replication.Replication.{Replication}

-- ---- parts

-- the most documents or states of a part
abbrev pub most_in_part : ℕ
most_in_part = 100

-- at most so many parts of a list, each of the most that a part has, but for the last one, which
-- has what is left
abbrev pub some_parts : {X : Type 0} → ℕ → List X → List (List X)
some_parts zero xs = []
some_parts (suc n) [] = []
some_parts (suc n) (x ∷ xs) =
    take most_in_part (x ∷ xs) ∷ some_parts n (drop most_in_part (x ∷ xs))

-- all of it
abbrev pub in_parts : {X : Type 0} → List X → List (List X)
in_parts xs = some_parts (length xs) xs

-- ---- records

-- a document as a row of a part
abbrev pub part_row : Stored → PartRow
part_row d = record { lwt = d.lwt; height = d.rev.height; state = d.state }

-- all documents of a collection, by rising place
abbrev pub rows_in : Held → List PartRow
rows_in c = map part_row (since c.documents None (length c.documents))

-- a collection's record, and those of its documents
abbrev pub collection_record : Held → Content
collection_record c = collection c.name (canonical_text c.schema)

abbrev pub part_records : Held → List Content
part_records c = map (part c.name) (in_parts (rows_in c))

-- a replication's record, and those of what its fork knows, each with both checkpoints; where no
-- state is known there is one for the checkpoints, if there is one of these
abbrev pub replication_record : Replication → Content
replication_record r = replication r.name r.fork r.master r.handler r.field

abbrev pub known_record : Replication → List State → Content
known_record r known = known_part r.name known r.side.up r.side.down

abbrev pub known_by : Replication → List (List State) → List Content
known_by r [] = if is_some r.side.up || is_some r.side.down then known_record r [] ∷ [] else []
known_by r (known ∷ more) = map (known_record r) (known ∷ more)

abbrev pub known_records : Replication → List Content
known_records r = known_by r (in_parts (values_of r.side.known))

-- All collections, all replications, the documents of each collection, what each fork knows, and
-- the epoch: the first four in the order of making.
abbrev pub plan : World → List Content
plan w =
    map (λ e. collection_record e.1) w.collections
    ++ map (λ e. replication_record e.1) w.replications
    ++ flat_map (λ e. part_records e.1) w.collections
    ++ flat_map (λ e. known_records e.1) w.replications
    ++ end w.epoch ∷ []
