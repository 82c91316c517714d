use Rattle.std.proofs.Common.{rules, ◌≡◌, ℕ, List, [], true, Ok, Err, refl}
use Rattle.std.proofs.lemmas.Result.{IfOk-weaker}
use Rattle.rx_value.proofs.Outcomes.{on_err}
use Rattle.rx_wire.specs.Spelling.{request_of}
use Rattle.rx_serve.specs.Answered.{Commits, LeavesSome}
use Rattle.rx_serve.specs.Course.{Halts}
use Rattle.rx_serve.specs.Lines.{is_within}
use Rattle.rx_serve.proofs.Answering.{asked, behind, ends_told, halts_none, refused_line}
use Rattle.rx_serve.proofs.serving.answer_line.Goals as goal

pub returns-in_ok-refuse-in-Err-clause-steps : goal.returns-in_ok-refuse-in-Err-clause-steps
returns-in_ok-refuse-in-Err-clause-steps g c = λ told within rest.
    let old = g.A.Answer.collection c.args.answer.now in
    let at : request_of old.schema c.args.line.now ≡ Err c.in-Err.fault = search rules in
    ends_told old _ rest _ _ _ _ (refused_line old c.args.line.now rest c.in-Err.fault within at)
    _ (g.met.A.Answer.holds_of_none c.args.answer.now c.requires.going)
    c.in_ok-refuse-in-Err.field-0.why c.in_ok-refuse-in-Err.field-0.requests
    c.in_ok-refuse-in-Err.ensures.none (c.in_ok-refuse-in-Err.ensures.told told)

pub returns-in_err-refuse-in-Err-clause-halts : goal.returns-in_err-refuse-in-Err-clause-halts
returns-in_err-refuse-in-Err-clause-halts g c = λ told.
    let old = g.A.Answer.collection c.args.answer.now in
    let before = g.A.Answer.moments c.args.answer.now in
    let line = c.args.line.now in
    let Holds : Commits → Commits → Type 0 = g.A.Answer.holds c.args.answer.now c.args.answer.now in
    let P : Type 0 = is_within line ≡ true → (rest : List ℕ)
    → Halts Holds (asked old line rest (g.W.Wire.sent c.args.wire.now) before)
    (behind old rest (g.W.Wire.sent c.refuse.new.wire) before) in
    let halts : P = λ within rest.
    halts_none _ _ Holds (c.in_err-refuse-in-Err.ensures.none_sent told) refl
    (g.met.A.Answer.holds_of_none c.args.answer.now c.requires.going) in
    on_err _ P halts

pub returns-in-Ok-clause-steps : goal.returns-in-Ok-clause-steps
returns-in-Ok-clause-steps g c = λ told.
    let old = g.A.Answer.collection c.args.answer.now in
    let at : request_of old.schema c.args.line.now ≡ Ok c.in-Ok.request = search rules in
    IfOk-weaker c.answer_request.result _ _
    (λ ended steps within rest. steps c.args.line.now within at rest)
    (c.answer_request.ensures.steps told)

-- nothing was done where there is no request

pub returns-in_ok-refuse-in-Err-clause-keeps : goal.returns-in_ok-refuse-in-Err-clause-keeps
returns-in_ok-refuse-in-Err-clause-keeps g c =
    ([], g.met.A.Answer.holds_of_none c.args.answer.now c.requires.going)

pub returns-in_err-refuse-in-Err-clause-leaves : goal.returns-in_err-refuse-in-Err-clause-leaves
returns-in_err-refuse-in-Err-clause-leaves g c =
    let Left : Type 0 = LeavesSome (g.A.Answer.holds c.args.answer.now c.args.answer.now) in
    let left : Left = ([], [], g.met.A.Answer.holds_of_none c.args.answer.now c.requires.going) in
    on_err _ Left left
