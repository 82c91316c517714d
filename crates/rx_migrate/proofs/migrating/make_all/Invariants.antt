use Rattle.std.proofs.Common.{◌≡◌, drop}
use Rattle.rx_migrate.specs.Migrated.{all_made}
use Rattle.rx_migrate.proofs.migrating.make_all.Given as goal

-- the steps to come
abbrev pub invariant-loop-step : goal.invariant-loop-step
invariant-loop-step l =
    all_made (drop l.step-index l.steps) l.fields ≡ all_made l.steps l.initial.fields
