use Rattle.std.proofs.Common.{refl}
use Rattle.rx_top.proofs.ServeEnds as by
use Rattle.rx_top.proofs.laws.serve_ends.Goals as goal

pub returns : goal.returns
returns g c = record {
  ends = λ r.
      by.ends g.K.Sink g.D.Disk g.L.Listen g.L.W.Wire.tells g.C.Clock r r.serves.ended refl;
  complete = λ r t bodies w start served well.
      by.complete g.K.Sink g.D.Disk g.L.Listen g.L.W.Wire.tells g.C.Clock r bodies w start t served
      well;
  room = λ r told t bodies w start served well fits.
      by.has_room g.K.Sink g.D.Disk g.L.Listen g.L.W.Wire.tells g.C.Clock r bodies w start t served
      well told fits;
}
