use Rattle.std.proofs.Common.{inl, inr}
use Rattle.rx_outside.proofs.Counts.{fails, starves}
use Rattle.rx_outside.proofs.memory_wire.MemoryWireWire.send.Goals as goal

pub returns-then-begin-clause-counts : goal.returns-then-begin-clause-counts
returns-then-begin-clause-counts c =
    inl (fails _ _ _ c.begin.ensures.made _ c.begin.ensures.listed c.if-begin.true
    c.fail.ensures.failed)

pub returns-then-is_err-clause-counts : goal.returns-then-is_err-clause-counts
returns-then-is_err-clause-counts c =
    inr (starves _ _ _ c.begin.ensures.made _ c.begin.ensures.listed c.if-begin.false
    c.starve.ensures.starved)
