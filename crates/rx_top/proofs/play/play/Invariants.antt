use Rattle.std.proofs.Common.{◌≡◌, ◌++◌, ◌+◌, ◌-◌, ◌≤◌, List, ℕ, length}
use Rattle.rx_engine.specs.Engine.{IsAt, standing_of}
use Rattle.rx_handler.specs.Shown.{kinds_of}
use Rattle.rx_sync.specs.Remote.{Heard}
use Rattle.rx_top.specs.Hears.{stands}
use Rattle.rx_top.specs.Reader.{max_input_bytes, Took}
use Rattle.rx_top.specs.Stops.{Appends}
use Rattle.rx_top.proofs.Exits.{Along}
use Rattle.rx_top.proofs.Growth.{HasGrown}
use Rattle.rx_top.proofs.play.play.Given as goal

abbrev pub invariant-lines : goal.invariant-lines
invariant-lines g l = record {
  along : (heard : List Heard) × ((later : List Heard) → g.S.Source.tells
      → Along (standing_of (kinds_of l.fn.handlers) (heard ++ later) l.fn.first)
      (standing_of (kinds_of l.fn.handlers) later l.engine) g.D.Disk g.K.Sink.tells g.N.W.Wire.tells
      l.fn.disk l.disk
      (stands g.N.Dial l.fn.dial)
      (stands g.N.Dial l.dial)
      l.fn.first l.engine (g.K.Sink.written l.fn.out) (g.K.Sink.written l.out)
      (g.S.Source.left l.fn.source) (l.reader.unread ++ g.S.Source.left l.source) l.number
      l.refused);
  grown : g.D.Disk.tells → (bodies : List (List ℕ)) → IsAt g.D.Disk l.fn.disk l.fn.first bodies
      → HasGrown g.D.Disk l.fn.disk l.disk l.engine bodies;
  told : g.K.Sink.tells → Appends (g.K.Sink.written l.fn.out) (g.K.Sink.written l.out);
  took : g.S.Source.tells
      → Took 0 (g.S.Source.left l.fn.source) (g.S.Source.left l.source) (λ n. n ≡ l.reader.given);
  source_faults : g.S.Source.faults l.fn.source ≤ g.S.Source.faults l.source;
  sink_faults : g.K.Sink.faults l.fn.out ≤ g.K.Sink.faults l.out;
  disk_faults : g.D.Disk.faults l.fn.disk ≤ g.D.Disk.faults l.disk;
  dial_faults : g.N.Dial.faults l.fn.dial ≤ g.N.Dial.faults l.dial;
  within : l.reader.given ≤ max_input_bytes;
  number : l.number + length l.reader.unread ≤ l.reader.given;
}

abbrev pub decreases-lines : goal.decreases-lines
decreases-lines g l = (max_input_bytes - l.reader.given) + length l.reader.unread
