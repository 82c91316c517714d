use Rattle.std.proofs.Common.{◌≡◌, ◌∙◌, ◌∷◌, ◌++◌, [], ap, sym, take, arith}
use Rattle.std.proofs.lemmas.List.{map-id}
use Rattle.rx_value.specs.declared.state.State.{State}
use Rattle.rx_compact.specs.Plan.{most_in_part}
use Rattle.rx_compact.proofs.Taking.{last_taken, one_taken}
use Rattle.rx_compact.proofs.plan.next_states.Goals as goal

pub loop-alloc-preserved : goal.loop-alloc-preserved
loop-alloc-preserved c =
    let states = c.loop-alloc.states.items in
    let next : c.loop-alloc.known ≡ c.in-Some.state.now ∷ c.next.new.self =
    c.in-Some.ensures.steps in (
      one_taken (λ (s : State). s) c.args.known.now states c.push.new.self.items c.loop-alloc.known
          c.next.new.self c.in-Some.state.now c.loop-alloc.invariant.0 next
          (c.in_ok-push-in-Some.ensures.items
          ∙ ap (λ (s : State). states ++ s ∷ []) c.in_ok-copy-in-Some.ensures),
      omega (arith, c.in_ok-push-in-Some.ensures.len, c.loop-alloc-test.true),
    )

pub returns-in-None-clause-states : goal.returns-in-None-clause-states
returns-in-None-clause-states c =
    (last_taken (λ (s : State). s) c.args.known.now c.loop-alloc.states.items c.loop-alloc.known
    most_in_part c.loop-alloc.invariant.0 c.in-None.ensures.steps.0 c.loop-alloc.invariant.1).0
    ∙ map-id (take most_in_part c.args.known.now)

pub returns-in-None-clause-left : goal.returns-in-None-clause-left
returns-in-None-clause-left c =
    let none = c.in-None.ensures.steps in
    none.1 ∙ sym none.0
    ∙ (last_taken (λ (s : State). s) c.args.known.now c.loop-alloc.states.items c.loop-alloc.known
    most_in_part c.loop-alloc.invariant.0 none.0 c.loop-alloc.invariant.1).1
