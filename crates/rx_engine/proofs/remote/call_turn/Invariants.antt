use Rattle.std.proofs.Common.{◌≡◌, ◌≤◌, true, Some}
use Rattle.rx_handler.specs.Shown.{kinds_of}
use Rattle.rx_sync.specs.Asking.{pending_in}
use Rattle.rx_engine.specs.Callings.{wire_stands}
use Rattle.rx_engine.specs.Turning.{terms}
use Rattle.rx_engine.proofs.Callings.{IsCalling}
use Rattle.rx_engine.proofs.remote.call_turn.Given as goal

-- so many exchanges were made, and the turn is these and the rest of it, whatever is heard in it;
-- after one that has pulled nothing is to be pushed
abbrev pub invariant-loop-i : goal.invariant-loop-i
invariant-loop-i g l = record {
  on : IsCalling (terms l.wanted.name l.now (kinds_of l.handlers)) l.wanted.batch g.D.Disk l.fn.disk
      l.fn.first l.fn.asks l.wanted.budget g.W.Wire.tells
      (wire_stands g.W.Wire l.fn.wire) l.disk l.i
      l.play l.asks l.exchanges (wire_stands g.W.Wire l.wire);
  none : l.pulled ≡ true → pending_in l.play.playing.world l.wanted.name ≡ Some 0;
  later : g.D.Disk.faults l.fn.disk ≤ g.D.Disk.faults l.disk;
  count : g.W.Wire.faults l.fn.wire ≤ g.W.Wire.faults l.wire;
}
