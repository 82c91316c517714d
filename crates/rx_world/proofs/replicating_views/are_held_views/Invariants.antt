use Rattle.std.proofs.Common.{◌≡◌, length}
use Rattle.std.specs.List.{list_all}
use Rattle.rx_record.specs.Views.{rows_left, states_left}
use Rattle.rx_world.specs.Among.{AreAmong}
use Rattle.rx_world.specs.Step.{is_held_with}
use Rattle.rx_world.proofs.replicating_views.are_held_views.Given as goal

-- the states that are left decide, and the rows that are left are among the rows
abbrev pub invariant-loop-state : goal.invariant-loop-state
invariant-loop-state l =
    (list_all (is_held_with l.fork (rows_left l.rows)) (states_left l.fn.known)
    ≡ list_all (is_held_with l.fork (rows_left l.rows)) (states_left l.known))
    × AreAmong (rows_left l.rest) (rows_left l.rows)

abbrev pub decreases-loop-state : goal.decreases-loop-state
decreases-loop-state l = length (states_left l.known)
