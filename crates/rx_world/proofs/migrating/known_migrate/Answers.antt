use Rattle.std.proofs.Common.{◌≡◌, ◌∙◌}
use Rattle.std.specs.Map.{values_of}
use Rattle.rx_world.specs.Migrating.{state_migrates}
use Rattle.rx_world.proofs.Passing.{values_pass}
use Rattle.rx_world.proofs.migrating.known_migrate.Goals as goal

pub loop-state-init : goal.loop-state-init
loop-state-init c =
    let es = c.args.side.now.known in
    let at : c.into_iter-state-iterator.result ≡ values_of es =
    c.into_iter-state-iterator.ensures.into_iter_gives ∙ c.all-state-items.ensures.states in
    rw at (values_pass (state_migrates c.args.schema.now c.args.steps.now) es, tt, tt)
