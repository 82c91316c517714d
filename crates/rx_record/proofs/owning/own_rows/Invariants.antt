use Rattle.std.proofs.Common.{◌≡◌, [], ◌++◌, true, None}
use Rattle.rx_record.specs.Reading.{is_read, read_or}
use Rattle.rx_record.specs.Rows.{rows_from}
use Rattle.rx_record.specs.Views.{rows_left}
use Rattle.rx_record.proofs.owning.own_rows.Given as goal

-- the rows so far, and then those that are read from the rest
abbrev pub invariant-loop-left : goal.invariant-loop-left
invariant-loop-left l = record {
  read : is_read (rows_from l.left None l.rest) ≡ true;
  all : rows_left l.rows ≡ l.owned.items ++ read_or [] (rows_from l.left None l.rest);
}

abbrev pub decreases-loop-left : goal.decreases-loop-left
decreases-loop-left l = l.left
