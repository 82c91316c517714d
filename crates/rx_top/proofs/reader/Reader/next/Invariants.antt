use Rattle.std.proofs.Common.{◌≡◌, ◌++◌, ◌+◌, ◌-◌, ◌≤◌, length}
use Rattle.rx_top.specs.Reader.{max_input_bytes, max_piece_bytes, Comes, Took}
use Rattle.rx_top.proofs.reader.Reader.next.Given as goal

-- a front of what was to come went to the line
abbrev pub invariant-pieces : goal.invariant-pieces
invariant-pieces g l = record {
  coming : g.S.Source.tells → Comes l.self.line (l.fn.self.unread ++ g.S.Source.left l.fn.source)
      (l.self.unread ++ g.S.Source.left l.source);
  took : g.S.Source.tells
      → Took l.fn.self.given (g.S.Source.left l.fn.source) (g.S.Source.left l.source) (λ n. n
      ≡ l.self.given);
  count : g.S.Source.faults l.fn.source ≤ g.S.Source.faults l.source;
  given : length l.self.unread + l.fn.self.given ≤ length l.fn.self.unread + l.self.given;
  piece : length l.self.unread ≤ max_piece_bytes;
  within : l.self.given ≤ max_input_bytes;
}

abbrev pub decreases-pieces : goal.decreases-pieces
decreases-pieces g l = max_input_bytes - l.self.given
