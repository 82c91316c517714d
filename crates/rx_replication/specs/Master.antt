-- What a master answers, and what it writes.
use Rattle.std.specs.Prelude.{ℕ, List, [], ◌∷◌, map, Option, Some, None, is_none, if◌then◌else◌}
use Rattle.std.specs.List.{filter, filter_map}
use Rattle.rx_value.specs.Named.{named}
use Rattle.rx_value.specs.declared.state.State.{State}
use Rattle.rx_document.specs.Documents.{Documents}
use Rattle.rx_document.specs.declared.place.Place.{Place}
use Rattle.rx_document.specs.declared.stored.Stored.{Stored}
use Rattle.rx_collection.specs.Held.{Held}
use Rattle.rx_collection.specs.Since.{place_of, since}
use Rattle.rx_wire.specs.declared.message.AskKind.{AskKind}
use Rattle.rx_wire.specs.declared.message.AskKind.TheVariants.{Push, Pull}
use Rattle.rx_wire.specs.declared.message.Body.{Body}
use Rattle.rx_wire.specs.declared.message.Body.TheVariants.{Conflicts, Docs}
use Rattle.rx_wire.specs.declared.message.PushRow.{PushRow}
use Rattle.rx_wire.specs.declared.message.Reply.{Reply}
use Rattle.rx_wire.specs.declared.message.Request.{Request}
use Rattle.rx_replication.specs.Known.{is_state}
use Rattle.rx_replication.specs.Write.{write}

-- ---- a push

-- the state that a row meets in place of the assumed one; none where its key isn't held
abbrev pub conflict_with : Option Stored → PushRow → Option State
conflict_with None row = None
conflict_with (Some d) row = if is_state row.assumed d.state then None else Some d.state

abbrev pub conflict_of : Documents → PushRow → Option State
conflict_of master row = conflict_with (named master row.new.key) row

-- the conflicts, in the order of the rows
abbrev pub conflicts : Documents → List PushRow → List State
conflicts master rows = filter_map (conflict_of master) rows

-- the new states of all other rows
abbrev pub writes : Documents → List PushRow → List State
writes master rows = map (λ row. row.new) (filter (λ row. is_none (conflict_of master row)) rows)

-- ---- a pull

-- the place of the last document, or the given one where there is none
abbrev pub last_place : Option Place → List Stored → Option Place
last_place place [] = place
last_place place (d ∷ ds) = last_place (Some (place_of d)) ds

-- documents above a place as an answer
abbrev pub docs : Option Place → List Stored → Body
docs place ds = Docs (map (λ d. d.state) ds) (last_place place ds)

-- ---- both

-- the answer
abbrev pub body_of : Documents → AskKind → Body
body_of master (Push rows) = Conflicts (conflicts master rows)
body_of master (Pull place batch) = docs place (since master place batch)

-- the master then: only a push writes; none where no write time is left
abbrev pub master_then : Held → AskKind → ℕ → Option Held
master_then master (Push rows) now = write master (writes master.documents rows) now
master_then master (Pull place batch) now = Some master

-- an answer with the numbers of its request
abbrev pub reply_with : Request → Body → Reply
reply_with q body = record { epoch = q.epoch; n = q.n; body = body }
