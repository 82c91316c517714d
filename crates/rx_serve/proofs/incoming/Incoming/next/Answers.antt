use Rattle.rx_serve.proofs.Coming.{comes_next}
use Rattle.rx_serve.proofs.incoming.Incoming.next.Goals as goal

pub returns-in-Some-clause-next : goal.returns-in-Some-clause-next
returns-in-Some-clause-next g c = λ told.
    comes_next c.in-Some.next c.in_ok-next.field-0 c.in-Some.is c.pieces.self c.advance.new.self _
    (g.W.Wire.left c.pieces.wire) (c.pieces.invariant.coming told) c.in_ok-next.ensures
