use Rattle.std.proofs.Common.{◌≡◌, None, option_map}
use Rattle.rx_record.specs.Reading.{rest_after}
use Rattle.rx_record.specs.PartRows.{part_rows_from}
use Rattle.rx_record.specs.Places.{place_in}
use Rattle.rx_record.proofs.part_rows.skip_part_rows.Given as goal

-- what is read from here on ends where all ends
abbrev pub invariant-loop-left : goal.invariant-loop-left
invariant-loop-left l =
    rest_after (part_rows_from l.count None l.bytes)
    ≡ rest_after (part_rows_from l.left (option_map place_in l.last) l.rest)

abbrev pub decreases-loop-left : goal.decreases-loop-left
decreases-loop-left l = l.left
