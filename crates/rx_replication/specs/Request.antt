-- What a fork asks of its master.
use Rattle.std.specs.Prelude.{◌≡◌, ℕ, ◌≤◌, List, [], ◌∷◌, map, take, Option}
use Rattle.rx_value.specs.Named.{named}
use Rattle.rx_document.specs.Documents.{Documents}
use Rattle.rx_document.specs.declared.place.Place.{Place}
use Rattle.rx_document.specs.declared.stored.Stored.{Stored}
use Rattle.rx_wire.specs.declared.message.AskKind.{AskKind}
use Rattle.rx_wire.specs.declared.message.AskKind.TheVariants.{Push, Pull}
use Rattle.rx_wire.specs.declared.message.PushRow.{PushRow}
use Rattle.rx_replication.specs.Known.{KnownStates, pending}

-- a document as a row of a push: the known state is the assumed one
abbrev pub push_row : KnownStates → Stored → PushRow
push_row known d = record { assumed = named known d.state.key; new = d.state }

-- a push of the rows, or a pull where there is none
abbrev pub push_or_pull : List PushRow → Option Place → ℕ → AskKind
push_or_pull [] down batch = Pull down batch
push_or_pull (row ∷ rows) down batch = Push (row ∷ rows)

-- a push of the first pending documents by place, or a pull from down where none is pending
abbrev pub ask_of : Documents → KnownStates → Option Place → ℕ → AskKind
ask_of documents known down batch =
    push_or_pull (map (push_row known) (take batch (pending documents known))) down batch

-- it is what a fork of these documents would ask
abbrev pub IsCurrent : Documents → KnownStates → Option Place → AskKind → Type 0
IsCurrent documents known down ask =
    (batch : ℕ) × (1 ≤ batch) × (ask ≡ ask_of documents known down batch)
