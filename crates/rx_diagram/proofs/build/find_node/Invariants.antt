use Rattle.std.proofs.Common.{◌≢◌, ℕ, ◌<◌}
use Rattle.rx_diagram.specs.Nodes.{node}
use Rattle.rx_diagram.proofs.build.find_node.Given as goal

abbrev pub invariant-loop-k : goal.invariant-loop-k
invariant-loop-k l = (j : ℕ) → j < l.k → node l.nodes j ≢ l.node
