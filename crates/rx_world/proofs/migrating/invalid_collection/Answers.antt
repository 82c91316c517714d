use Rattle.std.proofs.Common.{◌≡◌, ◌∙◌}
use Rattle.std.specs.Map.{values_of}
use Rattle.rx_value.specs.Named.{by_bytes}
use Rattle.rx_world.specs.Migrating.{collection_migrates, is_in_group}
use Rattle.rx_world.proofs.Alike.{unbroken_all}
use Rattle.rx_world.proofs.Fitting.{holders_fail}
use Rattle.rx_world.proofs.migrating.invalid_collection.Goals as goal

pub loop-holder-init : goal.loop-holder-init
loop-holder-init g c =
    let held = g.H.Holder.held in
    let broken = g.H.Holder.is_broken in
    let es = c.args.holders.now.entries in
    let in_group = is_in_group (by_bytes c.args.replications.now.entries) c.args.name.now in
    let at : c.into_iter-holder-iterator.result ≡ values_of es =
    c.into_iter-holder-iterator.ensures.into_iter_gives ∙ c.values-holder-items.ensures.rest in
    rw at (
      holders_fail held broken (collection_migrates in_group c.args.schema.now c.args.steps.now) es
          c.requires.whole,
      unbroken_all held broken es c.requires.whole,
      tt,
      tt,
    )
