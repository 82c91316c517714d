use Rattle.std.proofs.Common.{◌≡◌, [], ◌++◌, true, None}
use Rattle.rx_record.specs.Reading.{is_read, read_or}
use Rattle.rx_record.specs.Rows.{states_from}
use Rattle.rx_record.specs.Views.{states_left}
use Rattle.rx_record.proofs.owning.own_states.Given as goal

-- the states so far, and then those that are read from the rest
abbrev pub invariant-loop-left : goal.invariant-loop-left
invariant-loop-left l = record {
  read : is_read (states_from l.left None l.rest) ≡ true;
  all : states_left l.known ≡ l.owned.items ++ read_or [] (states_from l.left None l.rest);
}

abbrev pub decreases-loop-left : goal.decreases-loop-left
decreases-loop-left l = l.left
