use Rattle.std.proofs.Common.{◌∙◌, option_map}
use Rattle.rx_record.specs.PartRows.{part_row_bytes, row_place, part_row_of}
use Rattle.rx_record.specs.Places.{place_in}
use Rattle.rx_record.specs.Views.{part_row_in}
use Rattle.rx_record.proofs.Lists.{after_step}
use Rattle.rx_record.proofs.part_rows.skip_part_rows.Goals as goal

pub loop-left-preserved : goal.loop-left-preserved
loop-left-preserved c =
    c.loop-left.invariant
    ∙ after_step part_row_bytes row_place part_row_of c.loop-left.left
    (option_map place_in c.loop-left.last)
    c.loop-left.rest.now
    (part_row_in c.in_ok-row.row) c.in_ok-row.behind.now c.loop-left-test.true c.in_ok-row.ensures
