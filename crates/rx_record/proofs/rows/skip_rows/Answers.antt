use Rattle.std.proofs.Common.{◌∙◌, option_map}
use Rattle.rx_record.specs.Rows.{row_bytes, row_of, key_of}
use Rattle.rx_record.specs.Views.{row_in}
use Rattle.rx_record.proofs.Lists.{after_step}
use Rattle.rx_record.proofs.rows.skip_rows.Goals as goal

pub loop-left-preserved : goal.loop-left-preserved
loop-left-preserved c =
    c.loop-left.invariant
    ∙ after_step row_bytes key_of row_of c.loop-left.left (option_map (λ t. t.now) c.loop-left.last)
    c.loop-left.rest.now
    (row_in c.in_ok-row.row) c.in_ok-row.behind.now c.loop-left-test.true c.in_ok-row.ensures
