-- What a dial in memory tells.
use Rattle.std.specs.Prelude.{ℕ, List}
use Rattle.rx_outside.specs.Talk.{Talk}
use Rattle.rx_outside.specs.Wires.{talks_of}
use Rattle.rx_outside.specs.declared.calls.Calls.{Calls}
use Rattle.rx_outside.specs.declared.memory_dial.MemoryDial.{MemoryDial}
use Rattle.rx_outside.specs.declared.memory_wire.MemoryWire.{MemoryWire}

-- the wires not yet given
abbrev pub dial_waiting : MemoryDial → List MemoryWire
dial_waiting dial = dial.wires.waiting.items

-- the wires handed back
abbrev pub dial_closed : MemoryDial → List MemoryWire
dial_closed dial = dial.wires.closed.items

-- what went over each of them
abbrev pub dial_talks : MemoryDial → List Talk
dial_talks dial = talks_of dial.wires

-- how many of them failed
abbrev pub dial_broken : MemoryDial → ℕ
dial_broken dial = dial.wires.broken

-- the ports that were dialled, in turn
abbrev pub dial_asked : MemoryDial → List ℕ
dial_asked dial = dial.asked.items

-- its numbered calls
abbrev pub dial_calls : MemoryDial → Calls
dial_calls dial = dial.wires.calls

-- how many calls failed
abbrev pub dial_faults : MemoryDial → ℕ
dial_faults dial = dial.wires.calls.failed
