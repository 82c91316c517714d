use Rattle.rx_runs.proofs.Sides.{side_none}
use Rattle.std.proofs.Common.{refl}
use Rattle.rx_runs.proofs.marked.MarkedRun.new.Goals as goal

pub invariant_of-result : goal.invariant_of-result
invariant_of-result c =
    rw (c.new.ensures, c.new-2.ensures)
    (record { plain = side_none; marked = side_none; apart = λ k x at. refl })
