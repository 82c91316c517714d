use Rattle.core.proofs.cmp.Settled.{equal_as}
use Rattle.rx_value.proofs.comparing.same_bytes.Goals as goal

pub returns : goal.returns
returns c = equal_as c.args.a.now c.args.b.now _ _ c.requires c.numbers-x.ensures
