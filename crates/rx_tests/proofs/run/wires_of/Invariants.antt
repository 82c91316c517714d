use Rattle.rx_outside.specs.MemoryWire.{Unused}
use Rattle.rx_tests.proofs.run.wires_of.Given as goal

abbrev pub invariant-loop-peer : goal.invariant-loop-peer
invariant-loop-peer l = Unused l.wires.items
