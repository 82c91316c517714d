use Rattle.std.proofs.Common.{below_more}
use Rattle.rx_diagram.proofs.build.find_node.Goals as goal

pub loop-k-preserved : goal.loop-k-preserved
loop-k-preserved c = below_more _ _ c.loop-k.invariant
    (c.is_same_node.ensures.no c.if-is_same_node.false)
