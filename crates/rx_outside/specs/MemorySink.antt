-- What a sink in memory tells.
use Rattle.std.specs.Prelude.{ℕ, List}
use Rattle.rx_outside.specs.declared.calls.Calls.{Calls}
use Rattle.rx_outside.specs.declared.memory_sink.MemorySink.{MemorySink}

-- the bytes taken so far
abbrev pub sink_written : MemorySink → List ℕ
sink_written sink = sink.bytes.items

-- its numbered calls
abbrev pub sink_calls : MemorySink → Calls
sink_calls sink = sink.calls

-- how many calls failed
abbrev pub sink_faults : MemorySink → ℕ
sink_faults sink = sink.calls.failed
