use Rattle.std.proofs.Common.{◌≤◌, length, IfSome, sym, ap, ◌∙◌, subst}
use Rattle.rx_query.specs.Result.{fresh_rows}
use Rattle.rx_states.specs.Matches.{TellMatches}
use Rattle.rx_observe.specs.Front.{kept_limit, most_kept, IsFront, StaysFront}
use Rattle.rx_observe.specs.Watched.{Watched}
use Rattle.rx_observe.proofs.Steps.{ready_for, front_for, patched, is_cold, filled, keyed_after}
use Rattle.rx_observe.proofs.step.step.Goals as goal

pub follow-requires-clause-few : goal.follow-requires-clause-few
follow-requires-clause-few c =
    subst (λ q. IfSome (kept_limit q) (λ limit. length c.args.front.now.rows ≤ most_kept limit))
    (sym c.query-query.ensures) c.requires.follows.front.few

pub apply-requires-clause-matches : goal.apply-requires-clause-matches
apply-requires-clause-matches c =
    subst (λ q. TellMatches q c.args.change.now c.by_sides-matches.result) c.query-query.ensures
    c.by_sides-matches.ensures.told

pub apply-requires-clause-ready : goal.apply-requires-clause-ready
apply-requires-clause-ready c =
    ready_for c.args.change.now c.args.observed.now c.args.front.now c.args.collection.now
    c.requires.follows

pub returns-in-Patched-clause-observed : goal.returns-in-Patched-clause-observed
returns-in-Patched-clause-observed c =
    c.in_ok-apply.ensures.value
    ∙ patched c.args.change.now c.args.observed.now c.args.front.now c.args.collection.now
    c.requires.follows (sym c.in_ok-apply.ensures.answer ∙ c.in-Patched.is)

pub returns-in-Patched-clause-front : goal.returns-in-Patched-clause-front
returns-in-Patched-clause-front c =
    front_for c.args.change.now c.args.observed.now c.args.front.now c.args.collection.now
    c.requires.follows c.follow.new.self
    (subst (λ q. StaysFront q c.args.change.now c.args.front.now c.follow.new.self)
    c.query-query.ensures c.in_ok-follow.ensures)

pub run-requires-clause-keyed : goal.run-requires-clause-keyed
run-requires-clause-keyed c =
    ap (λ (v : Watched). v.query.primary) c.in_ok-apply.ensures.value
    ∙ keyed_after c.args.change.now c.args.observed.now c.args.front.now c.args.collection.now
    c.requires.follows

pub run-requires-clause-front : goal.run-requires-clause-front
run-requires-clause-front c =
    let documents = c.args.collection.now.documents in
    subst (λ (v : Watched). IsFront v.query documents c.follow.new.self)
    (sym c.in_ok-apply.ensures.value)
    (front_for c.args.change.now c.args.observed.now c.args.front.now c.args.collection.now
    c.requires.follows c.follow.new.self
    (subst (λ q. StaysFront q c.args.change.now c.args.front.now c.follow.new.self)
    c.query-query.ensures c.in_ok-follow.ensures))

pub fill-requires : goal.fill-requires
fill-requires c =
    ap (λ (v : Watched). v.rows) c.run.ensures.same
    ∙ is_cold c.args.change.now c.args.observed.now c.args.front.now c.args.collection.now
    c.requires.follows c.apply.new.observed c.in_ok-apply.ensures.value
    (sym c.in_ok-apply.ensures.answer ∙ c.in-NeedsFull.is)

pub returns-in_ok-rows-in-NeedsFull-clause-observed
    : goal.returns-in_ok-rows-in-NeedsFull-clause-observed
returns-in_ok-rows-in-NeedsFull-clause-observed c =
    c.fill.ensures
    ∙ filled c.args.change.now c.args.observed.now c.args.front.now c.args.collection.now
    c.requires.follows c.run.new.self (c.run.ensures.same ∙ c.in_ok-apply.ensures.value)
    c.in_ok-rows-in-NeedsFull.rows
    (c.in_ok-rows-in-NeedsFull.ensures.rows
    ∙ ap (λ (v : Watched). fresh_rows v.query c.args.collection.now.documents)
    (sym c.run.ensures.same))

pub returns-in_ok-rows-in-NeedsFull-clause-front
    : goal.returns-in_ok-rows-in-NeedsFull-clause-front
returns-in_ok-rows-in-NeedsFull-clause-front c =
    subst (λ (v : Watched). IsFront v.query c.args.collection.now.documents c.run.new.front)
    c.in_ok-apply.ensures.value c.in_ok-rows-in-NeedsFull.ensures.front
