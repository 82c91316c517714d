use Rattle.rx_top.proofs.CheckEnds as by
use Rattle.rx_top.proofs.laws.check_ends.Goals as goal

pub returns : goal.returns
returns g c = λ r t bodies w legal well.
    by.complete g.K.Sink g.D.Disk r t bodies w legal well
