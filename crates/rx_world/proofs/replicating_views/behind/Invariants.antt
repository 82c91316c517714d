use Rattle.std.proofs.Common.{◌≡◌, length}
use Rattle.rx_record.specs.Views.{rows_left}
use Rattle.rx_world.specs.Among.{AreAmong}
use Rattle.rx_world.specs.Step.{has_key}
use Rattle.rx_world.proofs.replicating_views.behind.Given as goal

-- what is left decides, and is among the rows
abbrev pub invariant-loop-row : goal.invariant-loop-row
invariant-loop-row l =
    (has_key l.key (rows_left l.fn.rows) ≡ has_key l.key (rows_left l.rows))
    × AreAmong (rows_left l.rows) (rows_left l.fn.rows)

abbrev pub decreases-loop-row : goal.decreases-loop-row
decreases-loop-row l = length (rows_left l.rows)
