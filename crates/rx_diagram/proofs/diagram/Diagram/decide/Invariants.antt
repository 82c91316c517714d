use Rattle.std.proofs.Common.{◌≡◌}
use Rattle.rx_table.specs.Log.{Adds}
use Rattle.rx_diagram.specs.Asked.{questions_in}
use Rattle.rx_diagram.proofs.Along.{Walked}
use Rattle.rx_diagram.proofs.Differ.{rank}
use Rattle.rx_diagram.proofs.diagram.Diagram.decide.Given as goal

abbrev pub invariant-loop-edge : goal.invariant-loop-edge
invariant-loop-edge g l = record {
  walked : Walked l.self.nodes.items (g.A.Ask.bits l.initial.ask) l.edge l.asked;
  logged : Adds (g.A.Ask.log l.initial.ask) (questions_in l.asked) (g.A.Ask.log l.ask);
  same : g.A.Ask.bits l.ask ≡ g.A.Ask.bits l.initial.ask;
}

abbrev pub decreases-loop-edge : goal.decreases-loop-edge
decreases-loop-edge g l = rank l.edge
