use Rattle.std.proofs.Common.{◌≡◌, List, ℕ, ◌++◌, ◌≤◌, length}
use Rattle.rx_outside.proofs.writing.write_all.Given as goal

abbrev pub invariant-writes : goal.invariant-writes
invariant-writes g l = record {
  written : g.K.Sink.tells →
      (done : List ℕ) × (l.bytes ≡ done ++ l.rest)
      × (g.K.Sink.written l.sink ≡ g.K.Sink.written l.fn.sink ++ done);
  count : g.K.Sink.faults l.fn.sink ≤ g.K.Sink.faults l.sink;
}

abbrev pub decreases-writes : goal.decreases-writes
decreases-writes g l = length l.rest
