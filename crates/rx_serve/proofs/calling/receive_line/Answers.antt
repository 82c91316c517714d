use Rattle.std.proofs.Common.{rules}
use Rattle.rx_serve.proofs.Coming.{too_long}
use Rattle.rx_serve.proofs.calling.receive_line.Goals as goal

pub returns-in-Some-clause-too_long : goal.returns-in-Some-clause-too_long
returns-in-Some-clause-too_long g c = λ told is.
    too_long c.bytes.line.items _ (g.W.Wire.left c.bytes.wire) _ c.in-Some.field-0
    (c.bytes.invariant.coming told) (search rules) c.in-Some.field-0-test.1 (search rules)
