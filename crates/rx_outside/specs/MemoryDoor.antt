-- What a door in memory tells.
use Rattle.std.specs.Prelude.{ℕ, List}
use Rattle.rx_outside.specs.Talk.{Talk}
use Rattle.rx_outside.specs.Wires.{talks_of}
use Rattle.rx_outside.specs.declared.calls.Calls.{Calls}
use Rattle.rx_outside.specs.declared.memory_door.MemoryDoor.{MemoryDoor}
use Rattle.rx_outside.specs.declared.memory_wire.MemoryWire.{MemoryWire}

-- the wires not yet given
abbrev pub door_waiting : MemoryDoor → List MemoryWire
door_waiting door = door.wires.waiting.items

-- the wires handed back
abbrev pub door_closed : MemoryDoor → List MemoryWire
door_closed door = door.wires.closed.items

-- what went over each of them
abbrev pub door_talks : MemoryDoor → List Talk
door_talks door = talks_of door.wires

-- how many of them failed
abbrev pub door_broken : MemoryDoor → ℕ
door_broken door = door.wires.broken

-- the ports at which it was opened, in turn
abbrev pub door_opened : MemoryDoor → List ℕ
door_opened door = door.opened.items

-- how many wires it gave
abbrev pub door_accepted : MemoryDoor → ℕ
door_accepted door = door.accepted

-- its numbered calls
abbrev pub door_calls : MemoryDoor → Calls
door_calls door = door.wires.calls

-- how many calls failed
abbrev pub door_faults : MemoryDoor → ℕ
door_faults door = door.wires.calls.failed
