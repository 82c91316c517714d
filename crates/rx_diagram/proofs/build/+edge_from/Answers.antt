use Rattle.std.proofs.Common.{ℕ, ◌+◌, refl, subst, arith, rules}
use Rattle.rx_diagram.proofs.Builds.{built_end, built_step, pow_left, pow_up, is_later}
use Rattle.rx_diagram.specs.Building.{IsBuilt}
use Rattle.rx_diagram.proofs.build.+edge_from.Goals as goal

pub returns-then-i-eq-QUESTIONS : goal.returns-then-i-eq-QUESTIONS
returns-then-i-eq-QUESTIONS t c = built_end _ _ _ _ c.if-i-eq-QUESTIONS.true c.table.ensures
    c.requires.reduced

pub edge_from-requires : goal.edge_from-requires
edge_from-requires t c =
    let p = pow_left c.args.i (omega arith) in
    let q = pow_up c.args.i in
    (search rules, (c.requires.reduced, (omega arith, (omega arith, omega arith))))

pub edge_from-requires-2 : goal.edge_from-requires-2
edge_from-requires-2 t c =
    let p = pow_left c.args.i (omega arith) in
    let q = pow_up c.args.i in
    let built = c.in_ok-no.ensures in
    let few = built.few in
    (search rules, (built.reduced, (omega arith, (omega arith, omega arith))))

pub share-requires : goal.share-requires
share-requires t c =
    let p = pow_left c.args.i (omega arith) in
    let few = c.in_ok-no.ensures.few in
    let more = c.in_ok-yes.ensures.few in
    record {
      reduced = c.in_ok-yes.ensures.reduced;
      later = is_later _ _ _ _ _ _ _ c.state_at-state.ensures c.in_ok-no.ensures
          c.in_ok-yes.ensures;
      room = omega arith;
    }

pub returns : goal.returns
returns t c = built_step _ _ _ _ c.args.i c.args.bits c.in_ok-no.no c.in_ok-yes.yes
    c.in_ok-edge.edge _ (omega arith) c.state_at-state.ensures refl refl
    c.in_ok-no.ensures (subst (λ (m : ℕ). IsBuilt c.edge_from.new.nodes.items
    c.edge_from-2.new.nodes.items (c.args.i + 1) m c.in_ok-yes.yes) c.with_yes.ensures
    c.in_ok-yes.ensures) c.in_ok-edge.ensures
