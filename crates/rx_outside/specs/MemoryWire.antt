-- What a wire in memory tells.
use Rattle.std.specs.Prelude.{◌≡◌, ℕ, List, take, drop, length, Bool, true, ◌&&◌, ◌==◌}
use Rattle.std.specs.List.{list_all}
use Rattle.rx_outside.specs.Talk.{Talk, talk}
use Rattle.rx_outside.specs.declared.calls.Calls.{Calls}
use Rattle.rx_outside.specs.declared.memory_wire.MemoryWire.{MemoryWire}

-- the bytes given so far
abbrev pub wire_given : MemoryWire → List ℕ
wire_given wire = take wire.at wire.bytes.items

-- the bytes not yet given
abbrev pub wire_left : MemoryWire → List ℕ
wire_left wire = drop wire.at wire.bytes.items

-- the bytes sent so far
abbrev pub wire_sent : MemoryWire → List ℕ
wire_sent wire = wire.sent.items

-- the most bytes that a call gives
abbrev pub wire_piece : MemoryWire → ℕ
wire_piece wire = wire.piece

-- its numbered calls, of both kinds together
abbrev pub wire_calls : MemoryWire → Calls
wire_calls wire = wire.calls

-- how many calls failed
abbrev pub wire_faults : MemoryWire → ℕ
wire_faults wire = wire.calls.failed

-- what went over it
abbrev pub wire_talk : MemoryWire → Talk
wire_talk wire = talk (wire_given wire) (wire_left wire) (wire_sent wire) (wire_faults wire)

-- no call was made on it
abbrev pub is_unused : MemoryWire → Bool
is_unused wire =
    (wire.calls.made == 0) && (wire.calls.failed == 0) && (wire.at == 0)
    && (length wire.sent.items == 0)

-- no call was made on any of them
abbrev pub Unused : List MemoryWire → Type 0
Unused wires = list_all is_unused wires ≡ true
