-- What the standard streams tell.
use Rattle.std.specs.Prelude.{ℕ}
use Rattle.rx_outside.specs.declared.standard.StdSource.{StdSource}
use Rattle.rx_outside.specs.declared.standard.StdSink.{StdSink}

-- how many reads failed
abbrev pub std_source_faults : {R : Type 0} → StdSource R → ℕ
std_source_faults source = source.faults

-- how many writes failed
abbrev pub std_sink_faults : {P : Type 0} → StdSink P → ℕ
std_sink_faults sink = sink.faults
