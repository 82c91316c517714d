use Rattle.std.proofs.Common.{◌≡◌, List, ℕ, ◌++◌, ◌≤◌, length}
use Rattle.rx_outside.proofs.sending.send_all.Given as goal

abbrev pub invariant-sends : goal.invariant-sends
invariant-sends g l = record {
  sent : g.W.Wire.tells →
      (done : List ℕ) × (l.bytes ≡ done ++ l.rest)
      × (g.W.Wire.sent l.wire ≡ g.W.Wire.sent l.fn.wire ++ done);
  given : g.W.Wire.tells → g.W.Wire.given l.wire ≡ g.W.Wire.given l.fn.wire;
  left : g.W.Wire.tells → g.W.Wire.left l.wire ≡ g.W.Wire.left l.fn.wire;
  count : g.W.Wire.faults l.fn.wire ≤ g.W.Wire.faults l.wire;
}

abbrev pub decreases-sends : goal.decreases-sends
decreases-sends g l = length l.rest
