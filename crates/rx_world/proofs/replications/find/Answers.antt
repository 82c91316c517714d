use Rattle.std.proofs.Common.{◌∙◌}
use Rattle.rx_value.proofs.Named.{lookup-by_bytes}
use Rattle.rx_world.proofs.replications.find.Goals as goal

pub returns : goal.returns
returns c = c.get.ensures.value ∙ lookup-by_bytes c.args.replications.now.entries c.args.name.now
