use Rattle.std.proofs.Common.{◌+◌, ◌^◌, ◌<◌, ◌≤◌, ◌++◌, List, length}
use Rattle.rx_engine.specs.Engine.{standing_of}
use Rattle.rx_handler.specs.Shown.{kinds_of}
use Rattle.rx_sync.specs.Remote.{Heard}
use Rattle.rx_top.specs.Hears.{stands}
use Rattle.rx_top.proofs.Through.{Through}
use Rattle.rx_top.proofs.trial.play_lines.Given as goal

abbrev pub invariant-script : goal.invariant-script
invariant-script g l = record {
  through : (heard : List Heard) × ((later : List Heard)
      → Through (standing_of (kinds_of l.fn.handlers) (heard ++ later) l.fn.first)
      (standing_of (kinds_of l.fn.handlers) later l.engine) g.D.Disk g.N.W.Wire.tells l.fn.disk
      l.disk
      (stands g.N.Dial l.fn.dial) (stands g.N.Dial l.dial) l.fn.first l.engine l.fn.lines l.lines
      l.tally);
  room : l.tally.lines + length l.lines < 2 ^ 63;
  among : l.tally.refused ≤ l.tally.lines;
  disk_faults : g.D.Disk.faults l.fn.disk ≤ g.D.Disk.faults l.disk;
  dial_faults : g.N.Dial.faults l.fn.dial ≤ g.N.Dial.faults l.dial;
}

abbrev pub decreases-script : goal.decreases-script
decreases-script g l = length l.lines
