use Rattle.std.proofs.Common.{◌≡◌, None}
use Rattle.rx_record.specs.Reading.{rest_after}
use Rattle.rx_record.specs.Steps.{steps_from}
use Rattle.rx_record.proofs.step_list.skip_steps.Given as goal

-- what is read from here on ends where all ends
abbrev pub invariant-loop-left : goal.invariant-loop-left
invariant-loop-left l =
    rest_after (steps_from l.count None l.bytes) ≡ rest_after (steps_from l.left None l.rest)

abbrev pub decreases-loop-left : goal.decreases-loop-left
decreases-loop-left l = l.left
