use Rattle.std.proofs.Common.{inl}
use Rattle.rx_outside.proofs.Counts.{fails}
use Rattle.rx_outside.proofs.memory_door.MemoryDoorListen.open.Goals as goal

pub returns-then-begin-clause-counts : goal.returns-then-begin-clause-counts
returns-then-begin-clause-counts c =
    inl (fails _ _ _ c.begin.ensures.made _ c.begin.ensures.listed c.if-begin.true
    c.fail.ensures.failed)
