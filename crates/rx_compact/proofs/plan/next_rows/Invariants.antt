use Rattle.std.proofs.Common.{◌≤◌, ◌-◌, length}
use Rattle.rx_compact.specs.Plan.{most_in_part, part_row}
use Rattle.rx_compact.proofs.Taking.{IsTaken}
use Rattle.rx_compact.proofs.plan.next_rows.Given as goal

abbrev pub invariant-loop-alloc : goal.invariant-loop-alloc
invariant-loop-alloc l =
    IsTaken part_row l.fn.page l.rows.items l.page × (length l.rows.items ≤ most_in_part)

abbrev pub decreases-loop-alloc : goal.decreases-loop-alloc
decreases-loop-alloc l = most_in_part - length l.rows.items
