use Rattle.std.proofs.Common.{ℕ, sym, ap, ◌∙◌, refl, subst}
use Rattle.rx_diagram.specs.Asked.{questions_in}
use Rattle.rx_table.specs.Log.{Adds}
use Rattle.rx_table.specs.States.{index_of, is_set}
use Rattle.rx_diagram.specs.declared.node.Edge.{Edge}
use Rattle.rx_diagram.proofs.Along.{Walked, walked_root, walked_action, walked_end, walked_step, step_smaller, step_fits}
use Rattle.rx_diagram.proofs.Once.{asked_once, asked_is}
use Rattle.rx_diagram.proofs.Rises.{adds_none, adds_more}
use Rattle.rx_diagram.proofs.diagram.Diagram.decide.Goals as goal

pub loop-edge-init : goal.loop-edge-init
loop-edge-init g c = record {
  walked = subst (λ (e : Edge). Walked c.args.self.now.nodes.items (g.A.Ask.bits c.args.ask.now) e
      0) (sym c.root-edge.ensures) (walked_root _ _ c.args.self.now.sound);
  logged = adds_none _;
  same = refl;
}

pub returns-in-Act-clause-action : goal.returns-in-Act-clause-action
returns-in-Act-clause-action g c = walked_action _ _ c.loop-edge.asked _ c.args.self.now.sound
    (g.met.A.Ask.in_range c.args.ask.now)
    (subst (λ (e : Edge). Walked c.args.self.now.nodes.items (g.A.Ask.bits c.args.ask.now) e
    c.loop-edge.asked) c.in-Act.is c.loop-edge.invariant.walked)

pub returns-in-Act-clause-asked : goal.returns-in-Act-clause-asked
returns-in-Act-clause-asked g c = walked_end _ _ _ c.in-Act.action c.args.self.now.sound
    (subst (λ (e : Edge). Walked c.args.self.now.nodes.items (g.A.Ask.bits c.args.ask.now) e
    c.loop-edge.asked) c.in-Act.is c.loop-edge.invariant.walked)

pub returns-in-Act-clause-number : goal.returns-in-Act-clause-number
returns-in-Act-clause-number g c =
    asked_once (g.A.Ask.bits c.args.ask.now) c.loop-edge.asked _
    (walked_end _ _ _ c.in-Act.action c.args.self.now.sound
    (subst (λ (e : Edge). Walked c.args.self.now.nodes.items (g.A.Ask.bits c.args.ask.now) e
    c.loop-edge.asked) c.in-Act.is c.loop-edge.invariant.walked))
    (asked_is (g.A.Ask.bits c.args.ask.now))

pub with_state-asked-requires : goal.with_state-asked-requires
with_state-asked-requires g c = step_fits _ _ c.in-To.k _ _ _ c.loop-edge.invariant.walked
    c.in-To.is c.node-node.ensures

pub loop-edge-smaller : goal.loop-edge-smaller
loop-edge-smaller g c = step_smaller _ _ c.in-To.k _ _ _ _ c.state-answer.result
    c.args.self.now.sound c.loop-edge.invariant.walked c.in-To.is c.node-node.ensures
    c.edge-edge.ensures

pub loop-edge-preserved : goal.loop-edge-preserved
loop-edge-preserved g c = record {
  walked = walked_step _ _ c.in-To.k c.loop-edge.asked _ _ _ c.node-node.result
      c.state-answer.result c.args.self.now.sound c.loop-edge.invariant.walked c.in-To.is
      c.node-node.ensures
      (c.state-answer.ensures.answer
      ∙ ap (λ n. is_set n (index_of c.node-node.result.state)) c.loop-edge.invariant.same)
      c.edge-edge.ensures c.with_state-asked.ensures;
  logged = subst (λ (m : ℕ). Adds (g.A.Ask.log c.args.ask.now) (questions_in m)
      (g.A.Ask.log c.state-answer.new.self)) (sym c.with_state-asked.ensures)
      (adds_more _ _ _ _ _ (step_fits _ _ c.in-To.k _ _ _ c.loop-edge.invariant.walked c.in-To.is
      c.node-node.ensures) c.loop-edge.invariant.logged c.state-answer.ensures.logged);
  same = c.state-answer.ensures.same ∙ c.loop-edge.invariant.same;
}
