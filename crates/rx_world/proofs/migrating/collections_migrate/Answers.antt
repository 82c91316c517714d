use Rattle.std.proofs.Common.{◌∙◌, not, sym, ap}
use Rattle.rx_value.specs.Named.{by_bytes, by_name}
use Rattle.rx_world.specs.Migrating.{collection_migrates, is_in_group}
use Rattle.rx_world.proofs.Fitting.{all_unless}
use Rattle.rx_world.proofs.migrating.collections_migrate.Goals as goal

pub returns-then-is_some : goal.returns-then-is_some
returns-then-is_some g c =
    let in_group = is_in_group (by_bytes c.args.replications.now.entries) c.args.name.now in
    let told = c.in_ok-invalid_collection in
    sym (all_unless (collection_migrates in_group c.args.schema.now c.args.steps.now)
    (by_name g.H.Holder.held c.args.holders.now.entries) told.field-0 told.ensures
    ∙ ap not (sym c.is_some.ensures ∙ c.if-is_some.true))

pub returns : goal.returns
returns g c =
    let in_group = is_in_group (by_bytes c.args.replications.now.entries) c.args.name.now in
    let told = c.in_ok-invalid_collection in
    sym (all_unless (collection_migrates in_group c.args.schema.now c.args.steps.now)
    (by_name g.H.Holder.held c.args.holders.now.entries) told.field-0 told.ensures
    ∙ ap not (sym c.is_some.ensures ∙ c.if-is_some.false))
