use Rattle.std.specs.Prelude.{◌≡◌, None}
use Rattle.rx_sync_tests.proofs.forks.meta_of.Given as goal

-- learning leaves the checkpoints
abbrev pub invariant-loop-line : goal.invariant-loop-line
invariant-loop-line l = l.meta.up ≡ None
