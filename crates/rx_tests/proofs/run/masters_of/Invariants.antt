use Rattle.rx_outside.specs.MemoryWire.{Unused}
use Rattle.rx_tests.proofs.run.masters_of.Given as goal

abbrev pub invariant-loop-master : goal.invariant-loop-master
invariant-loop-master l = Unused l.wires.items
