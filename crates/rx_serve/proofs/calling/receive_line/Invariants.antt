use Rattle.std.proofs.Common.{◌≡◌, ◌++◌, ◌+◌, ◌-◌, ◌≤◌, length}
use Rattle.rx_wire.specs.Limits.{longest_line}
use Rattle.rx_serve.specs.Incoming.{Comes}
use Rattle.rx_serve.proofs.calling.receive_line.Given as goal

-- a front of what was to come is the line so far
abbrev pub invariant-bytes : goal.invariant-bytes
invariant-bytes g l = record {
  coming : g.W.Wire.tells → Comes l.line.items (g.W.Wire.left l.fn.wire) (g.W.Wire.left l.wire);
  short : length l.line.items ≤ longest_line;
  whole : g.W.Wire.tells → g.W.Wire.given l.wire ++ g.W.Wire.left l.wire
      ≡ g.W.Wire.given l.fn.wire ++ g.W.Wire.left l.fn.wire;
  sent : g.W.Wire.tells → g.W.Wire.sent l.wire ≡ g.W.Wire.sent l.fn.wire;
  count : g.W.Wire.faults l.fn.wire ≤ g.W.Wire.faults l.wire;
}

abbrev pub decreases-bytes : goal.decreases-bytes
decreases-bytes g l = (longest_line + 1) - length l.line.items
