use Rattle.std.proofs.Common.{rules, ◌≡◌, ◌∙◌, ℕ, List, [], ◌∷◌, ◌++◌, true, Ok, refl, sym, ap}
use Rattle.rx_value.proofs.Outcomes.{on_err}
use Rattle.rx_wire.specs.Spelling.{request_of}
use Rattle.rx_serve.specs.Answered.{Commits, HoldsForSome, LeavesSome}
use Rattle.rx_serve.specs.Course.{Halts}
use Rattle.rx_serve.specs.Lines.{is_within}
use Rattle.rx_wire.specs.Writing.{reply_text}
use Rattle.rx_serve.proofs.Answering.{asked, behind, ends_by_clock, serves_one, breaks_after_one, halts_answered, halts_stopped, joined_at, some_at}
use Rattle.rx_serve.proofs.serving.answer_request.Goals as goal

pub returns-in_default-clause-steps : goal.returns-in_default-clause-steps
returns-in_default-clause-steps g c = λ told line within is rest. (
  refl,
  ends_by_clock c.args.request.now _ _ _ _ line rest _ within is _ c.in_ok-reply.field-0
      c.in_default.is c.in_ok-reply.ensures.answers,
)

pub returns-then-branch-clause-steps : goal.returns-then-branch-clause-steps
returns-then-branch-clause-steps g c = λ told line within is rest.
    let text : c.as_bytes.result.now ≡ reply_text c.in-Some.reply = search rules in
    serves_one c.args.request.now _ _ _ _ line rest _ within is c.in-Some.reply
    c.in_ok-reply.field-0 c.in-Some.is c.in_ok-reply.ensures.answers _ _
    (c.in_ok-send_line.ensures.sent told c.if-branch.true
    ∙ ap (λ v. g.W.Wire.sent c.args.wire.now ++ (v ++ 10 ∷ [])) text)

pub returns-clause-steps : goal.returns-clause-steps
returns-clause-steps g c = λ told line within is rest.
    let text : c.as_bytes.result.now ≡ reply_text c.in-Some.reply = search rules in
    let front = c.in_ok-send_line.ensures.cut told c.if-branch.false in
    breaks_after_one c.args.request.now _ _ _ _ line rest _ within is c.in-Some.reply
    c.in_ok-reply.field-0 c.in-Some.is c.in_ok-reply.ensures.answers _ _
    (front.0, front.1, ap (λ v. v ++ 10 ∷ []) (sym text) ∙ front.2, front.3)

pub returns-in_err-reply-clause-halts : goal.returns-in_err-reply-clause-halts
returns-in_err-reply-clause-halts g c = λ told.
    let q = c.args.request.now in
    let old = g.A.Answer.collection c.args.answer.now in
    let new = g.A.Answer.collection c.answer.new.self in
    let before = g.A.Answer.moments c.args.answer.now in
    let after = g.A.Answer.moments c.answer.new.self in
    let sent = g.W.Wire.sent c.args.wire.now in
    let sent' = g.W.Wire.sent c.args.wire.now in
    let Holds : Commits → Commits → Type 0 = g.A.Answer.holds c.args.answer.now c.answer.new.self in
    let P : Type 0 = (line : List ℕ) → is_within line ≡ true → request_of old.schema line ≡ Ok q
    → (rest : List ℕ)
    → Halts Holds (asked old line rest sent before) (behind new rest sent' after) in
    let halts : P = λ line within is rest.
    halts_stopped q old new before after line rest Holds within is sent sent' refl
    c.in_err-reply.ensures.keeps in
    on_err _ P halts

pub returns-in_err-text-clause-halts : goal.returns-in_err-text-clause-halts
returns-in_err-text-clause-halts g c = λ told.
    let q = c.args.request.now in
    let old = g.A.Answer.collection c.args.answer.now in
    let new = g.A.Answer.collection c.answer.new.self in
    let before = g.A.Answer.moments c.args.answer.now in
    let after = g.A.Answer.moments c.answer.new.self in
    let sent = g.W.Wire.sent c.args.wire.now in
    let sent' = g.W.Wire.sent c.args.wire.now in
    let Holds : Commits → Commits → Type 0 = g.A.Answer.holds c.args.answer.now c.answer.new.self in
    let P : Type 0 = (line : List ℕ) → is_within line ≡ true → request_of old.schema line ≡ Ok q
    → (rest : List ℕ)
    → Halts Holds (asked old line rest sent before) (behind new rest sent' after) in
    let halts : P = λ line within is rest.
    halts_answered q old new before after line rest (λ commits. Holds commits []) within is
    c.in-Some.reply c.in_ok-reply.field-0 c.in-Some.is c.in_ok-reply.ensures.answers sent sent'
    Holds (λ commits holds. holds) refl in
    on_err _ P halts

pub returns-in_err-send_line-clause-halts : goal.returns-in_err-send_line-clause-halts
returns-in_err-send_line-clause-halts g c = λ told.
    let q = c.args.request.now in
    let old = g.A.Answer.collection c.args.answer.now in
    let new = g.A.Answer.collection c.answer.new.self in
    let before = g.A.Answer.moments c.args.answer.now in
    let after = g.A.Answer.moments c.answer.new.self in
    let sent = g.W.Wire.sent c.args.wire.now in
    let sent' = g.W.Wire.sent c.send_line.new.wire in
    let Holds : Commits → Commits → Type 0 = g.A.Answer.holds c.args.answer.now c.answer.new.self in
    let P : Type 0 = (line : List ℕ) → is_within line ≡ true → request_of old.schema line ≡ Ok q
    → (rest : List ℕ)
    → Halts Holds (asked old line rest sent before) (behind new rest sent' after) in
    let halts : P = λ line within is rest.
    halts_answered q old new before after line rest (λ commits. Holds commits []) within is
    c.in-Some.reply c.in_ok-reply.field-0 c.in-Some.is c.in_ok-reply.ensures.answers sent sent'
    Holds (λ commits holds. holds) (c.in_err-send_line.ensures.none told) in
    on_err _ P halts

-- the answer alone says which moments and commits there are

pub returns-in_default-clause-joins : goal.returns-in_default-clause-joins
returns-in_default-clause-joins g c =
    joined_at c.args.request.now.ask _ _ _ _ _ _ _ c.in_ok-reply.ensures.answers

pub returns-in_err-text-clause-joins : goal.returns-in_err-text-clause-joins
returns-in_err-text-clause-joins g c =
    joined_at c.args.request.now.ask _ _ _ _ _ _ _ c.in_ok-reply.ensures.answers

pub returns-in_err-send_line-clause-joins : goal.returns-in_err-send_line-clause-joins
returns-in_err-send_line-clause-joins g c =
    joined_at c.args.request.now.ask _ _ _ _ _ _ _ c.in_ok-reply.ensures.answers

pub returns-then-branch-clause-joins : goal.returns-then-branch-clause-joins
returns-then-branch-clause-joins g c =
    joined_at c.args.request.now.ask _ _ _ _ _ _ _ c.in_ok-reply.ensures.answers

pub returns-clause-joins : goal.returns-clause-joins
returns-clause-joins g c =
    joined_at c.args.request.now.ask _ _ _ _ _ _ _ c.in_ok-reply.ensures.answers

pub returns-then-branch-clause-keeps : goal.returns-then-branch-clause-keeps
returns-then-branch-clause-keeps g c =
    some_at c.args.request.now.ask _ _ _ _ _ _ _ c.in_ok-reply.ensures.answers

pub returns-clause-keeps : goal.returns-clause-keeps
returns-clause-keeps g c =
    some_at c.args.request.now.ask _ _ _ _ _ _ _ c.in_ok-reply.ensures.answers

pub returns-in_err-text-clause-leaves : goal.returns-in_err-text-clause-leaves
returns-in_err-text-clause-leaves g c =
    let Holds : Commits → Commits → Type 0 = g.A.Answer.holds c.args.answer.now c.answer.new.self in
    let some : HoldsForSome (λ commits. Holds commits []) =
    some_at c.args.request.now.ask _ _ _ _ _ _ _ c.in_ok-reply.ensures.answers in
    let left : LeavesSome Holds = (some.0, [], some.1) in
    on_err _ (LeavesSome Holds) left

pub returns-in_err-send_line-clause-leaves : goal.returns-in_err-send_line-clause-leaves
returns-in_err-send_line-clause-leaves g c =
    let Holds : Commits → Commits → Type 0 = g.A.Answer.holds c.args.answer.now c.answer.new.self in
    let some : HoldsForSome (λ commits. Holds commits []) =
    some_at c.args.request.now.ask _ _ _ _ _ _ _ c.in_ok-reply.ensures.answers in
    let left : LeavesSome Holds = (some.0, [], some.1) in
    on_err _ (LeavesSome Holds) left
