use Rattle.std.proofs.Common.{◌≡◌, ◌≤◌, ◌<◌, ◌+◌, ◌++◌, List, ℕ, length}
use Rattle.rx_engine.specs.Ahead.{AddsTo}
use Rattle.rx_handler.specs.Shown.{kinds_of}
use Rattle.rx_top.specs.Group.{max_group_lines}
use Rattle.rx_top.specs.Reader.{TakesKept}
use Rattle.rx_top.proofs.Gathering.{IsGathering}
use Rattle.rx_top.proofs.group.gather.Given as goal

abbrev pub invariant-lines : goal.invariant-lines
invariant-lines g l = record {
  gathers : (old left : List ℕ)
      → TakesKept l.fn.next l.fn.reader.line old (l.fn.reader.unread ++ left)
      → IsGathering (kinds_of l.fn.handlers) l.fn.number old left l.fn.engine l.reader l.group;
  adds : (more : List (List ℕ)) × AddsTo l.fn.engine l.group.engine more;
  given : l.reader.given ≡ l.fn.reader.given;
  shorter : length l.reader.unread ≤ length l.fn.reader.unread;
  count : l.group.number + length l.reader.unread ≤ l.fn.number + length l.fn.reader.unread;
  first : l.fn.number ≤ l.group.number;
  few : l.group.number < l.fn.number + max_group_lines;
}

abbrev pub decreases-lines : goal.decreases-lines
decreases-lines g l = length l.reader.unread
