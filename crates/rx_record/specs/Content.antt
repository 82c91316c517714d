-- What a record says, and its bytes.
use Rattle.std.specs.Prelude.{ℕ, List, [], ◌∷◌, ◌++◌, ◌-◌, length, Option, Result, Ok, Err}
use Rattle.std.specs.Int.{w64}
use Rattle.rx_value.specs.declared.state.State.{State}
use Rattle.rx_document.specs.declared.place.Place.{Place}
use Rattle.rx_migrate.specs.declared.step.Step.{Step}
use Rattle.rx_record.specs.Reading.{Reading, ◌▸◌}
use Rattle.rx_record.specs.Parts.{number_bytes, number_of, text_bytes, text_of, option_bytes, option_of}
use Rattle.rx_record.specs.Rows.{rows_bytes, rows_of, states_bytes, states_of}
use Rattle.rx_record.specs.Places.{place_bytes, read_place}
use Rattle.rx_record.specs.Masters.{master_bytes, master_of}
use Rattle.rx_record.specs.Kinds.{Kind, by_kind}
use Rattle.rx_record.specs.Steps.{steps_bytes, steps_of}
use Rattle.rx_record.specs.PartRows.{part_rows_bytes, part_rows_of}
use Rattle.rx_record.specs.declared.at.At.{At}
use Rattle.rx_record.specs.declared.record.MasterName.{MasterName}
use Rattle.rx_record.specs.declared.record.PartRow.{PartRow}
use Rattle.rx_record.specs.declared.record.RowOut.{RowOut}

-- a collection's name and schema; a collection's name, the write time and the rows; a replication's
-- name, fork, master, handler and field; a replication's name, the write time and rows of its fork,
-- the states that became known, and the checkpoints up and down; an epoch; a collection's name, the
-- schema of its next version and the steps to it; or, of a journal that is a copy of another's
-- world, a part of a collection's documents, a part of a replication's known states with the
-- checkpoints, and the end of the copy with its epoch
pub data Content : Type 0 where
  collection : List ℕ → List ℕ → Content
  rows : List ℕ → ℕ → List RowOut → Content
  replication : List ℕ → List ℕ → MasterName → List ℕ → Option (List ℕ) → Content
  exchange : List ℕ → ℕ → List RowOut → List State → Option Place → Option Place → Content
  epoch : ℕ → Content
  migration : List ℕ → List ℕ → List Step → Content
  part : List ℕ → List PartRow → Content
  known_part : List ℕ → List State → Option Place → Option Place → Content
  end : ℕ → Content

-- the byte of a record's kind
abbrev pub collection_kind : ℕ
collection_kind = 1

abbrev pub rows_kind : ℕ
rows_kind = 2

abbrev pub replication_kind : ℕ
replication_kind = 3

abbrev pub exchange_kind : ℕ
exchange_kind = 4

abbrev pub epoch_kind : ℕ
epoch_kind = 5

abbrev pub migration_kind : ℕ
migration_kind = 6

abbrev pub part_kind : ℕ
part_kind = 7

abbrev pub known_part_kind : ℕ
known_part_kind = 8

abbrev pub end_kind : ℕ
end_kind = 9

-- the bytes of a record
abbrev pub content_bytes : Content → List ℕ
content_bytes (collection name schema) = collection_kind ∷ (text_bytes name ++ text_bytes schema)
content_bytes (rows name lwt written) =
    rows_kind ∷ (text_bytes name ++ (number_bytes w64 lwt ++ rows_bytes written))
content_bytes (replication name fork master handler field) =
    replication_kind ∷ (text_bytes name ++ (text_bytes fork ++ (master_bytes master
    ++ (text_bytes handler ++ option_bytes text_bytes field))))
content_bytes (exchange name lwt written known up down) =
    exchange_kind ∷ (text_bytes name ++ (number_bytes w64 lwt ++ (rows_bytes written
    ++ (states_bytes known ++ (option_bytes place_bytes up ++ option_bytes place_bytes down)))))
content_bytes (epoch number) = epoch_kind ∷ number_bytes w64 number
content_bytes (migration name schema steps) =
    migration_kind ∷ (text_bytes name ++ (text_bytes schema ++ steps_bytes steps))
content_bytes (part name written) = part_kind ∷ (text_bytes name ++ part_rows_bytes written)
content_bytes (known_part name known up down) =
    known_part_kind ∷ (text_bytes name ++ (states_bytes known
    ++ (option_bytes place_bytes up ++ option_bytes place_bytes down)))
content_bytes (end number) = end_kind ∷ number_bytes w64 number

-- what stands behind the byte of each kind
abbrev pub collection_of : List ℕ → Reading Content
collection_of bs =
    text_of bs ▸ λ name more.
    text_of more ▸ λ schema rest.
    Ok (collection name schema, rest)

abbrev pub written_of : List ℕ → Reading Content
written_of bs =
    text_of bs ▸ λ name more.
    number_of w64 more ▸ λ lwt more.
    rows_of more ▸ λ written rest.
    Ok (rows name lwt written, rest)

abbrev pub replication_of : List ℕ → Reading Content
replication_of bs =
    text_of bs ▸ λ name more.
    text_of more ▸ λ fork more.
    master_of more ▸ λ master more.
    text_of more ▸ λ handler more.
    option_of text_of more ▸ λ field rest.
    Ok (replication name fork master handler field, rest)

abbrev pub exchange_of : List ℕ → Reading Content
exchange_of bs =
    text_of bs ▸ λ name more.
    number_of w64 more ▸ λ lwt more.
    rows_of more ▸ λ written more.
    states_of more ▸ λ known more.
    option_of read_place more ▸ λ up more.
    option_of read_place more ▸ λ down rest.
    Ok (exchange name lwt written known up down, rest)

abbrev pub epoch_of : List ℕ → Reading Content
epoch_of bs = number_of w64 bs ▸ λ number rest. Ok (epoch number, rest)

abbrev pub migration_of : List ℕ → Reading Content
migration_of bs =
    text_of bs ▸ λ name more.
    text_of more ▸ λ schema more.
    steps_of more ▸ λ steps rest.
    Ok (migration name schema steps, rest)

abbrev pub part_of : List ℕ → Reading Content
part_of bs =
    text_of bs ▸ λ name more.
    part_rows_of more ▸ λ written rest.
    Ok (part name written, rest)

abbrev pub known_part_of : List ℕ → Reading Content
known_part_of bs =
    text_of bs ▸ λ name more.
    states_of more ▸ λ known more.
    option_of read_place more ▸ λ up more.
    option_of read_place more ▸ λ down rest.
    Ok (known_part name known up down, rest)

abbrev pub end_epoch_of : List ℕ → Reading Content
end_epoch_of bs = number_of w64 bs ▸ λ number rest. Ok (end number, rest)

abbrev pub kinds : List (Kind Content)
kinds =
    (collection_kind, collection_of) ∷ (rows_kind, written_of) ∷ (replication_kind, replication_of)
    ∷ (exchange_kind, exchange_of) ∷ (epoch_kind, epoch_of) ∷ (migration_kind, migration_of)
    ∷ (part_kind, part_of) ∷ (known_part_kind, known_part_of) ∷ (end_kind, end_epoch_of) ∷ []

-- what stands at the front of bytes
abbrev pub content_of : List ℕ → Reading Content
content_of = by_kind kinds

-- nothing stands behind it
abbrev pub nothing_behind : {A : Type 0} → Reading A → Result A ℕ
nothing_behind (Ok (x, [])) = Ok x
nothing_behind (Ok (x, b ∷ bs)) = Err (length (b ∷ bs))
nothing_behind (Err left) = Err left

-- a fault by its place among so many bytes
abbrev pub with_place : {A : Type 0} → ℕ → Result A ℕ → Result A At
with_place all (Ok x) = Ok x
with_place all (Err left) = Err (record { 0 = all - left })

-- what a body says, or the place of its first fault
abbrev pub record_of : List ℕ → Result Content At
record_of body = with_place (length body) (nothing_behind (content_of body))
