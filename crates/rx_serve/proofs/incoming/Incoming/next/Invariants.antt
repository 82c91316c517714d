use Rattle.std.proofs.Common.{◌≡◌, ◌++◌, ◌+◌, ◌-◌, ◌≤◌, length}
use Rattle.rx_wire.specs.Limits.{longest_line}
use Rattle.rx_serve.specs.Incoming.{Comes}
use Rattle.rx_serve.proofs.incoming.Incoming.next.Given as goal

-- a front of what was to come went to the line
abbrev pub invariant-pieces : goal.invariant-pieces
invariant-pieces g l = record {
  coming : g.W.Wire.tells → Comes l.self.line (l.fn.self.unread ++ g.W.Wire.left l.fn.wire)
      (l.self.unread ++ g.W.Wire.left l.wire);
  whole : g.W.Wire.tells → g.W.Wire.given l.wire ++ g.W.Wire.left l.wire
      ≡ g.W.Wire.given l.fn.wire ++ g.W.Wire.left l.fn.wire;
  sent : g.W.Wire.tells → g.W.Wire.sent l.wire ≡ g.W.Wire.sent l.fn.wire;
  count : g.W.Wire.faults l.fn.wire ≤ g.W.Wire.faults l.wire;
}

abbrev pub decreases-pieces : goal.decreases-pieces
decreases-pieces g l = (longest_line + 1) - (length l.self.line + length l.self.unread)
