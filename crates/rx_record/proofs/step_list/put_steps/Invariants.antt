use Rattle.std.proofs.Common.{◌≡◌, ◌++◌, take}
use Rattle.std.specs.List.{AllByRecursion}
use Rattle.rx_record.specs.Fields.{all_bytes}
use Rattle.rx_record.specs.Steps.{step_bytes}
use Rattle.rx_record.proofs.WrittenParts.{StepReadsBack}
use Rattle.rx_record.proofs.step_list.put_steps.Given as goal

-- the steps so far are written, and are read back
abbrev pub invariant-loop-i : goal.invariant-loop-i
invariant-loop-i l = record {
  bytes : l.out.items ≡ l.initial.out.items ++ all_bytes step_bytes (take l.i l.steps);
  back : AllByRecursion StepReadsBack (take l.i l.steps);
}
