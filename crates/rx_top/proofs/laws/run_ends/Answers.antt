use Rattle.rx_top.proofs.RunEnds as by
use Rattle.rx_top.proofs.laws.run_ends.Goals as goal

pub returns : goal.returns
returns g c = record {
  ends = λ r told t bodies w start.
      by.ends g.S.Source g.K.Sink g.D.Disk g.N.Dial g.N.W.Wire.tells r bodies w r.plays.ended
      (r.plays.headline told t bodies w start) r.plays.is_status;
  complete = λ r told t bodies w start well.
      by.complete g.S.Source g.K.Sink g.D.Disk g.N.Dial g.N.W.Wire.tells r bodies w start t well
      (by.ends g.S.Source g.K.Sink g.D.Disk g.N.Dial g.N.W.Wire.tells r bodies w r.plays.ended
      (r.plays.headline told t bodies w start) r.plays.is_status);
}
