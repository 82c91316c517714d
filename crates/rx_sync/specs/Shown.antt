-- What is planned, as the definitions see it.
use Rattle.std.specs.Prelude.{List, [], ◌∷◌, map, Option, Some, None}
use Rattle.rx_record.specs.Content.{Content}
use Rattle.rx_record.specs.Shown.{content}
use Rattle.rx_record.specs.declared.record.Record.{Record}
use Rattle.rx_sync.specs.Delivery.{Delivered}
use Rattle.rx_sync.specs.Exchange.{Planned}
use Rattle.rx_sync.specs.Handling.{Handled}
use Rattle.rx_sync.specs.Remote.{Heard, no_dial, no_wire, no_line, line}
use Rattle.rx_sync.specs.declared.exchanging.Planned.{Planned as PlannedHere}
use Rattle.rx_sync.specs.declared.giving.Giving.{Giving}
use Rattle.rx_sync.specs.declared.handling.Handled.{Handled as HandledHere}
use Rattle.rx_sync.specs.declared.remote.Heard.{Heard as HeardHere}
use Rattle.rx_sync.specs.declared.remote.Heard.TheVariants.{NoDial, NoWire, NoLine, Line}

-- the record, if there is one
abbrev pub record_in : Option Record → List Content
record_in None = []
record_in (Some entry) = content entry ∷ []

-- what a master does
abbrev pub handled_of : HandledHere → Handled
handled_of h = record { records = record_in h.written; reply = h.reply }

-- what an exchange comes to
abbrev pub planned_of : PlannedHere → Planned
planned_of p = record { records = map content p.records.items; came = p.came }

-- what the giving of an event comes to
abbrev pub giving_of : Giving → Delivered
giving_of g = record { records = record_in g.written; given = g.given ∷ []; kept = [] }

-- what was heard
abbrev pub heard_of : HeardHere → Heard
heard_of NoDial = no_dial
heard_of NoWire = no_wire
heard_of NoLine = no_line
heard_of (Line bytes) = line bytes.items
