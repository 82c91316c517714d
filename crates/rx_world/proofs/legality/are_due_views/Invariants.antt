use Rattle.std.proofs.Common.{◌≡◌, length}
use Rattle.std.specs.List.{list_all}
use Rattle.rx_record.specs.Views.{rows_left}
use Rattle.rx_world.specs.Step.{is_next_row}
use Rattle.rx_world.proofs.legality.are_due_views.Given as goal

abbrev pub invariant-loop-row : goal.invariant-loop-row
invariant-loop-row l =
    list_all (is_next_row l.collection) (rows_left l.fn.rows)
    ≡ list_all (is_next_row l.collection) (rows_left l.rows)

abbrev pub decreases-loop-row : goal.decreases-loop-row
decreases-loop-row l = length (rows_left l.rows)
