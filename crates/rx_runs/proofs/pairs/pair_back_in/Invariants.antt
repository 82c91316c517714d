use Rattle.std.proofs.Common.{◌≡◌, ◌+◌, ◌≤◌, length, drop}
use Rattle.rx_runs.specs.Run.{flat}
use Rattle.rx_runs.proofs.pairs.pair_back_in.Given as goal

-- what is left before the chunks so far
abbrev pub invariant-chunks : goal.invariant-chunks
invariant-chunks g l = record {
  within : l.end ≤ length l.chunks;
  left : l.fn.i ≡ length (flat (drop l.end l.chunks)) + l.left;
}

abbrev pub decreases-chunks : goal.decreases-chunks
decreases-chunks g l = l.end
