-- What is told of wires in memory that are given in turn and handed back.
use Rattle.std.specs.Prelude.{◌≡◌, ◌⊎◌, List, [], map}
use Rattle.std.specs.Prelude.{true}
use Rattle.rx_outside.specs.Failed.{one_more}
use Rattle.rx_outside.specs.Calls.{WantsMemory, is_listed}
use Rattle.rx_outside.specs.Talk.{Talk}
use Rattle.rx_outside.specs.MemoryWire.{wire_talk}
use Rattle.rx_outside.specs.declared.calls.Calls.{Calls}
use Rattle.rx_outside.specs.declared.memory_wire.MemoryWire.{MemoryWire}
use Rattle.rx_outside.specs.declared.wires.Wires.{Wires}

-- what went over each wire handed back
abbrev pub talks_of : Wires → List Talk
talks_of wires = map wire_talk wires.closed.items

-- One more call was made, and it failed: as it was to, or since no wire was left.
abbrev pub FailsOrEnds : Calls → Calls → List MemoryWire → Type 0
FailsOrEnds old new waiting =
    (new ≡ record old { made = one_more old.made; failed = one_more old.failed })
    × ((is_listed new ≡ true) ⊎ (waiting ≡ []))

-- Or it wanted memory.
abbrev pub FailsOrStarves : Calls → Calls → List MemoryWire → Type 0
FailsOrStarves old new waiting = FailsOrEnds old new waiting ⊎ WantsMemory old new
