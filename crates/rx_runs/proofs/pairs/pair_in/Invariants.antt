use Rattle.std.proofs.Common.{◌≡◌, ◌+◌, length, take}
use Rattle.rx_runs.specs.Run.{flat}
use Rattle.rx_runs.proofs.pairs.pair_in.Given as goal

-- what is left behind the chunks so far
abbrev pub invariant-loop-chunk : goal.invariant-loop-chunk
invariant-loop-chunk g l = l.fn.i ≡ length (flat (take l.chunk-index l.chunks)) + l.left
