use Rattle.std.proofs.Common.{List, ℕ, subst}
use Rattle.std.specs.Map.Iter.{TakesFirst, deref_pair}
use Rattle.rx_runs.specs.Marked.{merged}
use Rattle.rx_runs.proofs.Sides.{goes_on, rest_first, rest_second, step_first, step_second}
use Rattle.rx_runs.proofs.marked.AllSlotsIterator.next.Goals as goal

pub invariant_of-self : goal.invariant_of-self
invariant_of-self c =
    let are = c.self.invariant in
    let rest = rest_first deref_pair c.self.inside.plain c.self.inside.marked c.next.result
    c.next.new.self are.0 are.2 c.next.ensures.steps in
    (rest.0, are.1, rest.1)

pub invariant_of-self-else-is_plain_first : goal.invariant_of-self-else-is_plain_first
invariant_of-self-else-is_plain_first c =
    let are = c.self.invariant in
    let next = c.next-else-is_plain_first in
    let rest = rest_second deref_pair c.self.inside.plain c.self.inside.marked next.result
    next.new.self are.1 are.2 next.ensures.steps in
    (are.0, rest.0, rest.1)

pub returns-then-is_plain_first-clause-steps : goal.returns-then-is_plain_first-clause-steps
returns-then-is_plain_first-clause-steps c =
    let marked = c.self.inside.marked in
    subst
    (λ (s : List (List ℕ × ℕ)). TakesFirst deref_pair s c.next.result
    (merged c.next.new.self marked))
    c.self.view_is
    (step_first deref_pair c.self.inside.plain marked c.next.result c.next.new.self
    c.self.invariant.0 (c.is_plain_first.ensures.yes c.if-is_plain_first.true)
    c.next.ensures.steps)

pub returns-then-is_plain_first-clause-goes : goal.returns-then-is_plain_first-clause-goes
returns-then-is_plain_first-clause-goes c =
    goes_on deref_pair _ (λ s. tt) c.args.self.now c.next.result
    (merged c.next.new.self c.self.inside.marked) (returns-then-is_plain_first-clause-steps c)

pub returns-else-is_plain_first-clause-steps : goal.returns-else-is_plain_first-clause-steps
returns-else-is_plain_first-clause-steps c =
    let plain = c.self.inside.plain in
    let next = c.next-else-is_plain_first in
    subst
    (λ (s : List (List ℕ × ℕ)). TakesFirst deref_pair s next.result
    (merged plain next.new.self))
    c.self.view_is
    (step_second deref_pair plain c.self.inside.marked next.result next.new.self
    (c.is_plain_first.ensures.no c.if-is_plain_first.false) next.ensures.steps)

pub returns-else-is_plain_first-clause-goes : goal.returns-else-is_plain_first-clause-goes
returns-else-is_plain_first-clause-goes c =
    let next = c.next-else-is_plain_first in
    goes_on deref_pair _ (λ s. tt) c.args.self.now next.result
    (merged c.self.inside.plain next.new.self) (returns-else-is_plain_first-clause-steps c)
