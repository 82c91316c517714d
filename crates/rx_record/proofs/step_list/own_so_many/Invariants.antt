use Rattle.std.proofs.Common.{◌≡◌, ◌+◌, ◌≤◌, None, true, length}
use Rattle.rx_migrate.specs.Step.{most_steps}
use Rattle.rx_record.specs.Reading.{is_read}
use Rattle.rx_record.specs.Steps.{steps_from}
use Rattle.rx_record.proofs.StepsOn.{with_front}
use Rattle.rx_record.proofs.step_list.own_so_many.Given as goal

-- the steps so far, and then those that are read from the rest
abbrev pub invariant-loop-left : goal.invariant-loop-left
invariant-loop-left l = record {
  read : is_read (steps_from l.left None l.rest) ≡ true;
  all : steps_from l.count None l.bytes ≡ with_front l.steps (steps_from l.left None l.rest);
  few : length l.steps + l.left ≤ most_steps;
}

abbrev pub decreases-loop-left : goal.decreases-loop-left
decreases-loop-left l = l.left
