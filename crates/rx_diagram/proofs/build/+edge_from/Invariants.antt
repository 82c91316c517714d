use Rattle.std.proofs.Common.{◌-◌}
use Rattle.rx_diagram.proofs.build.+edge_from.Given as goal

abbrev pub decreases-edge_from : goal.decreases-edge_from
decreases-edge_from l = 19 - l.i
