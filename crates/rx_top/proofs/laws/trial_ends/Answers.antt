use Rattle.rx_top.proofs.TrialEnds as by
use Rattle.rx_top.proofs.laws.trial_ends.Goals as goal

pub returns : goal.returns
returns g c = record {
  ends = λ r t bodies w start.
      by.ends g.K.Sink g.D.Disk g.N.Dial g.N.W.Wire.tells r bodies w r.tries.stop
      (r.tries.headline t bodies w start);
  complete = λ r t bodies w start well.
      by.complete g.K.Sink g.D.Disk g.N.Dial g.N.W.Wire.tells r bodies w start t well
      (r.tries.headline t bodies w start);
}
