use Rattle.std.proofs.Common.{◌≡◌, length, take}
use Rattle.rx_runs.specs.Run.{flat}
use Rattle.rx_runs.proofs.pairs.count.Given as goal

-- the pairs of the chunks so far
abbrev pub invariant-loop-chunk : goal.invariant-loop-chunk
invariant-loop-chunk g l = l.count ≡ length (flat (take l.chunk-index l.chunks))
