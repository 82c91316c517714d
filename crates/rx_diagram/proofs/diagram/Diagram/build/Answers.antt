use Rattle.std.proofs.Common.{List, [], subst, arith}
use Rattle.rx_diagram.specs.declared.node.Node.{Node}
use Rattle.rx_diagram.specs.Building.{IsBuilt}
use Rattle.rx_diagram.proofs.Builds.{is_diagram}
use Rattle.rx_diagram.proofs.diagram.Diagram.build.Goals as goal

pub invariant_of-result : goal.invariant_of-result
invariant_of-result c =
    let built : IsBuilt [] c.edge_from.new.nodes.items 4 0 c.in_ok-edge_from.field-0 =
    subst (λ (ns : List Node). IsBuilt ns c.edge_from.new.nodes.items 4 0 c.in_ok-edge_from.field-0)
    c.new-nodes.ensures.items c.in_ok-edge_from.ensures in
    let few = built.few in
    record {
      sound = is_diagram c.edge_from.new.nodes.items c.in_ok-edge_from.field-0 built;
      few = omega arith;
    }
