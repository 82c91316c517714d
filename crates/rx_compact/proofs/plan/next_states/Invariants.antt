use Rattle.std.proofs.Common.{◌≤◌, ◌-◌, length}
use Rattle.rx_compact.specs.Plan.{most_in_part}
use Rattle.rx_compact.proofs.Taking.{IsTaken}
use Rattle.rx_compact.proofs.plan.next_states.Given as goal

abbrev pub invariant-loop-alloc : goal.invariant-loop-alloc
invariant-loop-alloc l =
    IsTaken (λ s. s) l.fn.known l.states.items l.known × (length l.states.items ≤ most_in_part)

abbrev pub decreases-loop-alloc : goal.decreases-loop-alloc
decreases-loop-alloc l = most_in_part - length l.states.items
