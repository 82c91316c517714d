use Rattle.rx_top.proofs.GoingOn.{starts_empty}
use Rattle.rx_top.proofs.laws.starts_empty.Goals as goal

pub returns : goal.returns
returns g c = starts_empty g.D.Disk
