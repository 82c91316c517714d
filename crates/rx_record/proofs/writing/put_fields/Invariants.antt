use Rattle.std.proofs.Common.{◌≡◌, ◌++◌, take}
use Rattle.std.specs.List.{AllByRecursion}
use Rattle.rx_record.specs.Fields.{all_bytes, pair_bytes}
use Rattle.rx_record.proofs.Written.{PairReadsBack}
use Rattle.rx_record.proofs.writing.put_fields.Given as goal

-- the pairs so far are written, and are read back
abbrev pub invariant-loop-i : goal.invariant-loop-i
invariant-loop-i l = record {
  bytes : l.out.items ≡ l.initial.out.items ++ all_bytes pair_bytes (take l.i l.fields);
  back : AllByRecursion PairReadsBack (take l.i l.fields);
}
