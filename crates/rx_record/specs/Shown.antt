-- What a record and its view say.
use Rattle.std.specs.Prelude.{◌≡◌, option_map, Result, Ok, Err}
use Rattle.rx_record.specs.Content.{Content, collection, rows, replication, exchange, epoch, migration, part, known_part, end}
use Rattle.rx_record.specs.Places.{place_in}
use Rattle.rx_record.specs.Views.{rows_left, states_left, part_rows_left, steps_in, master_in}
use Rattle.rx_record.specs.declared.at.At.{At}
use Rattle.rx_record.specs.declared.record.Record.{Record}
use Rattle.rx_record.specs.declared.record.Record.TheVariants as owned
use Rattle.rx_record.specs.declared.record_view.RecordView.{RecordView}
use Rattle.rx_record.specs.declared.record_view.RecordView.TheVariants as lent

-- what a record says
abbrev pub content : Record → Content
content (owned.Collection name schema) = collection name schema
content (owned.Rows name lwt written) = rows name lwt written.items
content (owned.Replication name fork master handler field) =
    replication name fork master handler field
content (owned.Exchange name lwt written known up down) =
    exchange name lwt written.items known.items up down
content (owned.Epoch number) = epoch number
content (owned.Migration name schema steps) = migration name schema steps
content (owned.Part name written) = part name written.items
content (owned.KnownPart name known up down) = known_part name known.items up down
content (owned.End number) = end number

-- what a view says
abbrev pub content_in : RecordView → Content
content_in (lent.Collection name schema) = collection name.now schema.now
content_in (lent.Rows name lwt written) = rows name.now lwt (rows_left written)
content_in (lent.Replication name fork master handler field) =
    replication name.now fork.now (master_in master) handler.now (option_map (λ t. t.now) field)
content_in (lent.Exchange name lwt written known up down) =
    exchange name.now lwt (rows_left written) (states_left known)
    (option_map place_in up) (option_map place_in down)
content_in (lent.Epoch number) = epoch number
content_in (lent.Migration name schema steps) = migration name.now schema.now (steps_in steps.now)
content_in (lent.Part name written) = part name.now (part_rows_left written)
content_in (lent.KnownPart name known up down) =
    known_part name.now (states_left known) (option_map place_in up) (option_map place_in down)
content_in (lent.End number) = end number

-- the answer is what is due
abbrev pub Shows : Result RecordView At → Result Content At → Type 0
Shows (Ok view) due = due ≡ Ok (content_in view)
Shows (Err place) due = due ≡ Err place
