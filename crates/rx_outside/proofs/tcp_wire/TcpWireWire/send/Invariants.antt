use Rattle.std.proofs.Common.{◌≡◌}
use Rattle.rx_outside.proofs.tcp_wire.TcpWireWire.send.Given as goal

abbrev pub invariant-tries : goal.invariant-tries
invariant-tries g l = l.self.faults ≡ l.fn.self.faults
