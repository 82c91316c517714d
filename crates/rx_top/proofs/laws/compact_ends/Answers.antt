use Rattle.rx_top.proofs.CompactEnds as by
use Rattle.rx_top.proofs.laws.compact_ends.Goals as goal

pub returns : goal.returns
returns g c = λ r t u empty bodies w legal well.
    by.complete g.K.Sink g.D.Disk g.E.Disk r t u empty bodies w legal well
