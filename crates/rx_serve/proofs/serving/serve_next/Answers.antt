use Rattle.std.proofs.Common.{rules, ◌∙◌, ◌++◌, refl, subst, List, ℕ}
use Rattle.std.proofs.lemmas.Result.{IfOk-weaker}
use Rattle.rx_value.proofs.Outcomes.{on_err}
use Rattle.rx_wire.specs.Fault.{fault_text}
use Rattle.rx_wire.specs.declared.fault.WireFault.TheVariants as fault
use Rattle.rx_serve.specs.Incoming.{IsNext}
use Rattle.rx_serve.specs.Refused.{IsToldFor}
use Rattle.rx_serve.specs.Served.{as_line}
use Rattle.rx_serve.specs.declared.incoming.Next.TheVariants as next
use Rattle.rx_serve.proofs.Answering.{ends_told, halts_none, line_step, refused_long, ends_by_peer, breaks_unread}
use Rattle.rx_serve.proofs.serving.serve_next.Goals as goal

pub returns-in_ok-refuse-in-Ok-TooLong-clause-steps :
    goal.returns-in_ok-refuse-in-Ok-TooLong-clause-steps
returns-in_ok-refuse-in-Ok-TooLong-clause-steps g c = λ told.
    let old = c.args.incoming.now.unread ++ g.W.Wire.left c.args.wire.now in
    let new = c.next.new.self.unread ++ g.W.Wire.left c.next.new.wire in
    let is : IsNext next.TooLong c.next.new.self.line old new = search rules in
    let done = c.in_ok-refuse-in-Ok-TooLong.field-0 in
    let P : List ℕ → Type 0 = λ v. IsToldFor done.why v (g.W.Wire.sent c.refuse.new.wire)
    (as_line (fault_text fault.TooLong)) in
    ends_told (g.A.Answer.collection c.args.answer.now) old _ _ _ _ _
    (refused_long (g.A.Answer.collection c.args.answer.now) c.next.new.self.line old new is)
    _ (g.met.A.Answer.holds_of_none c.args.answer.now c.requires.going)
    done.why done.requests c.in_ok-refuse-in-Ok-TooLong.ensures.none
    (subst P (c.next.ensures.same_sent told) (c.in_ok-refuse-in-Ok-TooLong.ensures.told told))

pub returns-in-Ok-End-clause-steps : goal.returns-in-Ok-End-clause-steps
returns-in-Ok-End-clause-steps g c = λ told.
    let old = c.args.incoming.now.unread ++ g.W.Wire.left c.args.wire.now in
    let new = c.next.new.self.unread ++ g.W.Wire.left c.next.new.wire in
    let is : IsNext next.End c.next.new.self.line old new = search rules in (
      refl,
      ends_by_peer _ c.next.new.self.line old new _ _ _ _ _
          (g.met.A.Answer.holds_of_none c.args.answer.now c.requires.going) is
          (c.next.ensures.same_sent told),
    )

pub returns-in-Err-Wire-clause-steps : goal.returns-in-Err-Wire-clause-steps
returns-in-Err-Wire-clause-steps g c = λ told.
    breaks_unread _ _ _ _ _ _ _ (g.met.A.Answer.holds_of_none c.args.answer.now c.requires.going)
    (c.next.ensures.same_sent told)

pub returns-in_err-refuse-in-Ok-TooLong-clause-halts :
    goal.returns-in_err-refuse-in-Ok-TooLong-clause-halts
returns-in_err-refuse-in-Ok-TooLong-clause-halts g c = λ told.
    on_err _ _ (halts_none _ _ _
    (c.in_err-refuse-in-Ok-TooLong.ensures.none_sent told ∙ c.next.ensures.same_sent told) refl
    (g.met.A.Answer.holds_of_none c.args.answer.now c.requires.going))

pub returns-in-Ok-Line-clause-steps : goal.returns-in-Ok-Line-clause-steps
returns-in-Ok-Line-clause-steps g c = λ told.
    let old = c.args.incoming.now.unread ++ g.W.Wire.left c.args.wire.now in
    let new = c.next.new.self.unread ++ g.W.Wire.left c.next.new.wire in
    let is : IsNext next.Line c.next.new.self.line old new = search rules in
    IfOk-weaker c.answer_line.result _ _
    (λ ended steps. line_step ended _ (g.A.Answer.collection c.args.answer.now)
    (g.A.Answer.collection c.answer_line.new.answer) c.next.new.self.line c.line.result.now old
    c.next.new.self.unread (g.W.Wire.left c.next.new.wire) (g.W.Wire.left c.answer_line.new.wire)
    (g.W.Wire.sent c.args.wire.now) (g.W.Wire.sent c.next.new.wire)
    (g.W.Wire.sent c.answer_line.new.wire) (g.A.Answer.moments c.args.answer.now)
    (g.A.Answer.moments c.answer_line.new.answer) is c.line.ensures
    (c.answer_line.ensures.same_left told) (c.next.ensures.same_sent told) steps)
    (c.answer_line.ensures.steps told)
