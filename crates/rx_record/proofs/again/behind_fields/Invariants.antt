use Rattle.std.proofs.Common.{◌≡◌, None, true}
use Rattle.rx_record.specs.Reading.{rest_after, is_read}
use Rattle.rx_record.specs.Fields.{pairs_of, fields_of}
use Rattle.rx_record.proofs.again.behind_fields.Given as goal

-- pairs are read from here on, and end where all end
abbrev pub invariant-loop-left : goal.invariant-loop-left
invariant-loop-left l = record {
  read : is_read (pairs_of l.left None l.rest) ≡ true;
  end : rest_after (fields_of l.bytes) ≡ rest_after (pairs_of l.left None l.rest);
}

abbrev pub decreases-loop-left : goal.decreases-loop-left
decreases-loop-left l = l.left
