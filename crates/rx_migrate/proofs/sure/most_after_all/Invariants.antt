use Rattle.std.proofs.Common.{◌≡◌, drop}
use Rattle.rx_migrate.specs.Sure.{most_after_all}
use Rattle.rx_migrate.proofs.sure.most_after_all.Given as goal

-- the steps to come
abbrev pub invariant-loop-step : goal.invariant-loop-step
invariant-loop-step l =
    most_after_all (drop l.step-index l.steps) l.most ≡ most_after_all l.steps l.initial.most
