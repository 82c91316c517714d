use Rattle.std.proofs.Common.{◌≡◌, drop}
use Rattle.std.specs.List.{list_all}
use Rattle.rx_handler.specs.Shown.{kinds_of}
use Rattle.rx_session.specs.Placed.{world_of}
use Rattle.rx_engine.specs.Sweeping.{is_step_handled}
use Rattle.rx_engine.proofs.sweeping.are_handled.Given as goal

-- those to come decide
abbrev pub invariant-loop-step : goal.invariant-loop-step
invariant-loop-step g l =
    list_all (is_step_handled (kinds_of l.handlers) (world_of l.world)) (drop l.step-index l.steps)
    ≡ list_all (is_step_handled (kinds_of l.handlers) (world_of l.world)) l.steps
