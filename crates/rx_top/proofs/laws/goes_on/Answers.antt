use Rattle.rx_top.proofs.GoingOn.{goes_on}
use Rattle.rx_top.proofs.laws.goes_on.Goals as goal

pub returns : goal.returns
returns g c = goes_on g.D.Disk g.E.Disk
