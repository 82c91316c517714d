use Rattle.std.proofs.Common.{ap, sym, ◌∙◌}
use Rattle.rx_value.proofs.Removed.{without_none}
use Rattle.rx_value.proofs.Setting.{value_in}
use Rattle.rx_migrate.specs.Migrated.{renamed}
use Rattle.rx_migrate.proofs.migrating.rename.Goals as goal

pub returns-in-None : goal.returns-in-None
returns-in-None c =
    let ps = c.args.fields in
    let field = c.args.field.now in
    c.in-None.ensures.others ∙ without_none field ps (sym c.in-None.ensures.old)
    ∙ ap (renamed ps field c.args.to.now) c.in-None.ensures.old

pub set-requires : goal.set-requires
set-requires c =
    value_in c.args.fields c.args.field.now c.in-Some.ensures.lawful.in_range
    c.in-Some.value (sym c.in-Some.ensures.old)
