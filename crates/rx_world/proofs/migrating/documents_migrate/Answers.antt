use Rattle.std.proofs.Common.{◌≡◌, ◌∙◌}
use Rattle.std.specs.Map.{values_of}
use Rattle.rx_document.specs.declared.stored.Stored.{Stored}
use Rattle.rx_world.specs.Migrating.{state_migrates}
use Rattle.rx_world.proofs.Passing.{values_pass}
use Rattle.rx_world.proofs.migrating.documents_migrate.Goals as goal

pub loop-held-init : goal.loop-held-init
loop-held-init c =
    let es = c.args.collection.now.documents in
    let at : c.into_iter-held-iterator.result ≡ values_of es =
    c.into_iter-held-iterator.ensures.into_iter_gives ∙ c.all-held-items.ensures.documents in
    rw at (
      values_pass (λ (d : Stored). state_migrates c.args.schema.now c.args.steps.now d.state) es,
      tt,
      tt,
    )
