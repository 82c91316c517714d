use Rattle.std.proofs.Common.{◌≡◌, ◌++◌, length}
use Rattle.rx_meta.specs.Migrated.{known_after}
use Rattle.rx_meta.proofs.migrating.migrated_states.Given as goal

-- the states so far are after the steps, and with the others after them all will be
abbrev pub invariant-loop-all : goal.invariant-loop-all
invariant-loop-all l =
    l.all ++ known_after l.steps l.left ≡ known_after l.steps l.fn.known

abbrev pub decreases-loop-all : goal.decreases-loop-all
decreases-loop-all l = length l.left
