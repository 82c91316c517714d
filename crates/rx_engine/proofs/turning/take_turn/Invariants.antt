use Rattle.std.proofs.Common.{◌≡◌, true, Some}
use Rattle.rx_handler.specs.Shown.{kinds_of}
use Rattle.rx_sync.specs.Asking.{pending_in}
use Rattle.rx_engine.specs.Turning.{terms}
use Rattle.rx_engine.proofs.Turnings.{IsTurning}
use Rattle.rx_engine.proofs.turning.take_turn.Given as goal

-- so many exchanges were made, and the turn is these and the rest of it; after one that has pulled
-- nothing is to be pushed
abbrev pub invariant-loop-i : goal.invariant-loop-i
invariant-loop-i g l = record {
  on : IsTurning (terms l.wanted.name l.now (kinds_of l.handlers)) l.wanted.batch l.fn.first
      l.fn.asks l.wanted.link.items l.wanted.budget l.i l.play l.asks l.exchanges;
  none : l.pulled ≡ true → pending_in l.play.playing.world l.wanted.name ≡ Some 0;
}
