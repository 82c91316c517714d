use Rattle.std.proofs.Common.{rules, ◌≡◌, ◌∙◌, ◌≤◌, ◌<◌, []}
use Rattle.rx_value.proofs.Outcomes.{on_err}
use Rattle.rx_serve.specs.Answered.{Commits, LeavesSome}
use Rattle.rx_serve.specs.Served.{most_requests}
use Rattle.rx_serve.proofs.Courses.{Join, serves_begun, serves_more, all_since, none_since, sent_at_end, continues_more, holds_more, leaves_more, ended_so, ended_full, stopped, stopped_first}
use Rattle.rx_serve.proofs.serving.serve.Goals as goal

pub returns-in_err-incoming-clause-stopped : goal.returns-in_err-incoming-clause-stopped
returns-in_err-incoming-clause-stopped g c = λ told.
    on_err _ _ (stopped_first (g.A.Answer.collection c.args.answer.now)
    (g.W.Wire.left c.args.wire.now) (g.W.Wire.sent c.args.wire.now)
    (g.A.Answer.moments c.args.answer.now) _
    (g.met.A.Answer.holds_of_none c.args.answer.now c.requires.going))

pub returns-in_err-incoming-clause-leaves : goal.returns-in_err-incoming-clause-leaves
returns-in_err-incoming-clause-leaves g c =
    let Left : Type 0 = LeavesSome (g.A.Answer.holds c.args.answer.now c.args.answer.now) in
    let left : Left = ([], [], g.met.A.Answer.holds_of_none c.args.answer.now c.requires.going) in
    on_err _ Left left

pub requests-init : goal.requests-init
requests-init g c =
    let none : c.in_ok-incoming.incoming.unread ≡ [] = search rules in
    let holds = g.met.A.Answer.holds_of_none c.args.answer.now c.requires.going in
    record {
      serves = λ told. serves_begun _ _ _ _ _ _ holds none;
      holds = ([], holds);
      joins = search rules;
      whole = search rules;
      going = search rules;
      ready = search rules;
      count = search rules;
    }

pub returns-in_err-ended-clause-stopped : goal.returns-in_err-ended-clause-stopped
returns-in_err-ended-clause-stopped g c = λ told.
    let few : c.requests.requests ≤ most_requests = search rules in
    on_err _ _ (stopped c.requests.requests _ _ _ (c.requests.invariant.serves told) _ _
    (λ first second more. g.met.A.Answer.holds_on c.args.answer.now c.requests.answer
    c.serve_next.new.answer first second more c.requests.invariant.going)
    _ few (c.in_err-ended.ensures.halts told))

pub returns-in_err-ended-clause-leaves : goal.returns-in_err-ended-clause-leaves
returns-in_err-ended-clause-leaves g c =
    on_err _ _ (leaves_more
    (λ commits. g.A.Answer.holds c.args.answer.now c.requests.answer commits [])
    (g.A.Answer.holds c.requests.answer c.serve_next.new.answer)
    (g.A.Answer.holds c.args.answer.now c.serve_next.new.answer)
    (λ first second more. g.met.A.Answer.holds_on c.args.answer.now c.requests.answer
    c.serve_next.new.answer first second more c.requests.invariant.going)
    c.requests.invariant.holds c.in_err-ended.ensures.leaves)

pub returns-in-Some-clause-served : goal.returns-in-Some-clause-served
returns-in-Some-clause-served g c = λ told.
    let less : c.requests.requests < most_requests = search rules in
    ended_so c.requests.requests _ _ _ (c.requests.invariant.serves told) _ _
    (λ first second. g.met.A.Answer.holds_on c.args.answer.now c.requests.answer
    c.serve_next.new.answer first second [] c.requests.invariant.going)
    c.in-Some.ended.why c.in-Some.ended.requests _ less
    (rw c.in-Some.is at c.in_ok-ended.ensures.steps told)

pub returns-in-Some-clause-keeps : goal.returns-in-Some-clause-keeps
returns-in-Some-clause-keeps g c =
    holds_more
    (λ commits. g.A.Answer.holds c.args.answer.now c.requests.answer commits [])
    (λ commits. g.A.Answer.holds c.requests.answer c.serve_next.new.answer commits [])
    (λ commits. g.A.Answer.holds c.args.answer.now c.serve_next.new.answer commits [])
    (λ first second. g.met.A.Answer.holds_on c.args.answer.now c.requests.answer
    c.serve_next.new.answer first second [] c.requests.invariant.going)
    c.requests.invariant.holds c.in_ok-ended.ensures.keeps

pub requests-preserved : goal.requests-preserved
requests-preserved g c =
    let H : Commits → Type 0 = λ commits.
    g.A.Answer.holds c.args.answer.now c.requests.answer commits [] in
    let I : Commits → Type 0 = λ commits.
    g.A.Answer.holds c.requests.answer c.serve_next.new.answer commits [] in
    let J : Commits → Type 0 = λ commits.
    g.A.Answer.holds c.args.answer.now c.serve_next.new.answer commits [] in
    let join : Join H I J = λ first second.
    g.met.A.Answer.holds_on c.args.answer.now c.requests.answer c.serve_next.new.answer first
    second [] c.requests.invariant.going in
    record {
      serves = λ told.
          serves_more c.requests.requests H _ _ (c.requests.invariant.serves told) I J join 1 _
          (rw c.in_default.is at c.in_ok-ended.ensures.steps told);
      holds = holds_more H I J join c.requests.invariant.holds c.in_ok-ended.ensures.keeps;
      joins = continues_more _ _ _ c.requests.invariant.joins c.serve_next.ensures.joins;
      whole = search rules;
      going = search rules;
      ready = search rules;
      count = search rules;
    }

pub returns-clause-served : goal.returns-clause-served
returns-clause-served g c = λ told.
    ended_full c.requests.requests (search rules) _ _ _ (c.requests.invariant.serves told)

-- the moments and the bytes sent, step by step

pub returns-in_err-incoming-clause-moments : goal.returns-in_err-incoming-clause-moments
returns-in_err-incoming-clause-moments g c = none_since (g.A.Answer.moments c.args.answer.now)

pub returns-in_err-incoming-clause-sent : goal.returns-in_err-incoming-clause-sent
returns-in_err-incoming-clause-sent g c = λ told. none_since (g.W.Wire.sent c.args.wire.now)

pub returns-in_err-ended-clause-moments : goal.returns-in_err-ended-clause-moments
returns-in_err-ended-clause-moments g c =
    all_since _ _ (continues_more _ _ _ c.requests.invariant.joins c.serve_next.ensures.joins)

pub returns-in-Some-clause-moments : goal.returns-in-Some-clause-moments
returns-in-Some-clause-moments g c =
    all_since _ _ (continues_more _ _ _ c.requests.invariant.joins c.serve_next.ensures.joins)

pub returns-clause-moments : goal.returns-clause-moments
returns-clause-moments g c = all_since _ _ c.requests.invariant.joins

pub returns-clause-sent : goal.returns-clause-sent
returns-clause-sent g c = λ told.
    let joins = (c.requests.invariant.serves told).joins in
    all_since _ _ (joins.bytes, joins.sent)

pub returns-in_err-ended-clause-sent : goal.returns-in_err-ended-clause-sent
returns-in_err-ended-clause-sent g c = λ told.
    let joins = (c.requests.invariant.serves told).joins in
    all_since _ _ (joins.bytes, (c.in_err-ended.ensures.halts told).sent ∙ joins.sent)

pub returns-in-Some-clause-sent : goal.returns-in-Some-clause-sent
returns-in-Some-clause-sent g c = λ told.
    let joins = (c.requests.invariant.serves told).joins in
    all_since _ _ (continues_more _ _ _ (joins.bytes, joins.sent)
    (sent_at_end c.in-Some.ended.why c.in-Some.ended.requests _ _ _
    (rw c.in-Some.is at c.in_ok-ended.ensures.steps told)))
