use Rattle.std.proofs.Common.{◌≡◌, ◌++◌, take}
use Rattle.std.specs.List.{AllByRecursion}
use Rattle.rx_record.specs.Fields.{all_bytes}
use Rattle.rx_record.specs.Rows.{state_bytes}
use Rattle.rx_record.proofs.Written.{StateReadsBack}
use Rattle.rx_record.proofs.writing.put_states.Given as goal

-- the states so far are written, and are read back
abbrev pub invariant-loop-state : goal.invariant-loop-state
invariant-loop-state l = record {
  bytes : l.out.items ≡ l.initial.out.items ++ all_bytes state_bytes (take l.state-index l.known);
  back : AllByRecursion StateReadsBack (take l.state-index l.known);
}
