-- What a source in memory tells.
use Rattle.std.specs.Prelude.{ℕ, List, drop}
use Rattle.rx_outside.specs.declared.calls.Calls.{Calls}
use Rattle.rx_outside.specs.declared.memory_source.MemorySource.{MemorySource}

-- the bytes not yet given
abbrev pub source_left : MemorySource → List ℕ
source_left source = drop source.at source.bytes.items

-- the most bytes that a call gives
abbrev pub source_piece : MemorySource → ℕ
source_piece source = source.piece

-- its numbered calls
abbrev pub source_calls : MemorySource → Calls
source_calls source = source.calls

-- how many calls failed
abbrev pub source_faults : MemorySource → ℕ
source_faults source = source.calls.failed
