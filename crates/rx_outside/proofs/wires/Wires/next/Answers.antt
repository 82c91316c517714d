use Rattle.std.proofs.Common.{inl}
use Rattle.rx_outside.proofs.Counts.{fails}
use Rattle.rx_outside.proofs.wires.Wires.next.Goals as goal

pub returns-then-begin-clause-counts : goal.returns-then-begin-clause-counts
returns-then-begin-clause-counts c =
    let failed =
    fails _ _ _ c.begin.ensures.made _ c.begin.ensures.listed c.if-begin.true
    c.fail.ensures.failed in
    (failed.0, inl failed.1)
