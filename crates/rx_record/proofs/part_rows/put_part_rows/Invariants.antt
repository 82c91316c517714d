use Rattle.std.proofs.Common.{◌≡◌, ◌++◌, take}
use Rattle.std.specs.List.{AllByRecursion}
use Rattle.rx_record.specs.Fields.{all_bytes}
use Rattle.rx_record.specs.PartRows.{part_row_bytes}
use Rattle.rx_record.proofs.WrittenParts.{PartRowReadsBack}
use Rattle.rx_record.proofs.part_rows.put_part_rows.Given as goal

-- the rows so far are written, and are read back
abbrev pub invariant-loop-row : goal.invariant-loop-row
invariant-loop-row l = record {
  bytes : l.out.items ≡ l.initial.out.items ++ all_bytes part_row_bytes (take l.row-index l.rows);
  back : AllByRecursion PartRowReadsBack (take l.row-index l.rows);
}
