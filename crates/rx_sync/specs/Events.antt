-- What the fork of a replication makes of an event of its master.
use Rattle.std.specs.Prelude.{◌≡◌, ℕ, ◌==◌, List, Option, Some, length, Result}
use Rattle.rx_value.specs.Due.{◌>>=◌, ◌>>◌, demand, lifted}
use Rattle.rx_value.specs.Named.{named}
use Rattle.rx_collection.specs.Held.{Held}
use Rattle.rx_collection.specs.Since.{is_above}
use Rattle.rx_replication.specs.Known.{pending}
use Rattle.rx_fork.specs.Accept.{page_plan}
use Rattle.rx_fork.specs.Valid.{is_valid}
use Rattle.rx_record.specs.Content.{Content}
use Rattle.rx_record.specs.declared.record.MasterName.TheVariants.{Local}
use Rattle.rx_stream.specs.Good.{IsGoodEvent}
use Rattle.rx_stream.specs.declared.event.Event.{Event}
use Rattle.rx_world.specs.World.{World}
use Rattle.rx_world.specs.declared.replication.Replication.{Replication}
use Rattle.rx_sync.specs.Asking.{fork_in}
use Rattle.rx_sync.specs.Taking.{is_same_place, recorded}
use Rattle.rx_sync.specs.declared.fault.EventFault.{EventFault}
use Rattle.rx_sync.specs.declared.fault.EventFault.TheVariants.{Old, Pending, Gap, ClockEnd}
use Rattle.rx_sync.specs.declared.fault.TakeFault.{TakeFault}

-- a record that isn't made: of the faults of a taking there is one here, that no write time is left
abbrev pub time_fault : TakeFault → EventFault
time_fault fault = ClockEnd

-- the record that an event is taken with
abbrev pub event_recorded : List ℕ → ℕ → Event → Replication → Held
    → Result (List Content) EventFault
event_recorded name now e r fork =
    lifted time_fault
    (recorded name now fork r.side (page_plan fork.documents r.side e.states (Some e.place)))

-- An event is old where its place isn't above the checkpoint down. It waits where something of the
-- fork is to be pushed. Where it doesn't begin at that checkpoint, one before it was lost. Else it
-- is taken.
abbrev pub event_by : List ℕ → ℕ → Event → Replication → Held → Result (List Content) EventFault
event_by name now e r fork =
    let due = length (pending fork.documents r.side.known) in
    demand (is_above r.side.down e.place) Old
    >> λ _. demand (due == 0) (Pending due)
    >> λ _. demand (is_same_place e.from r.side.down) Gap
    >> λ _. event_recorded name now e r fork

-- of the replication of a name, where it and its fork are there
abbrev pub event_taken : World → List ℕ → Event → ℕ → Option (Result (List Content) EventFault)
event_taken w name e now =
    named w.replications name >>= λ r. fork_in w r >>= λ fork. Some (event_by name now e r fork)

-- the event is good for the master of the replication of a name, where that is of this journal
abbrev pub IsGoodEventIn : World → List ℕ → Event → Type 0
IsGoodEventIn w name e =
    (r : Replication) → named w.replications name ≡ Some r
    → (at : List ℕ) → r.master ≡ Local at
    → (master : Held) → named w.collections at ≡ Some master
    → IsGoodEvent (is_valid master.schema) master.documents e
