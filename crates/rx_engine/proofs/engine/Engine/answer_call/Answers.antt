use Rattle.std.proofs.Common.{Ok, Err, refl, sym, subst, rules}
use Rattle.rx_handler.specs.Shown.{kinds_of}
use Rattle.rx_engine.specs.Engine.{AnswersCall, IsAt, limit_of, standing_of}
use Rattle.rx_engine.specs.declared.engine.Engine.{Engine}
use Rattle.rx_engine.specs.declared.output.Output.{Output}
use Rattle.rx_engine.proofs.Meanings.{turned_so}
use Rattle.rx_engine.proofs.Remotely.{done_so, ran_out_then, stops_so}
use Rattle.rx_store.proofs.Stops.{done_cause, memory_cause, memory_stop}
use Rattle.rx_engine.proofs.engine.Engine.answer_call.Goals as goal

pub returns-in_err-made-clause-turned : goal.returns-in_err-made-clause-turned
returns-in_err-made-clause-turned g c =
    stops_so g.D.Disk c.args.disk.now c.make_call.new.disk (limit_of c.args.self) _ _ _ _ _
    (Err c.in_err-made.field-0.0) c.in_err-made.ensures.turned _ _ c.in_err-made.field-0.0
    refl c.from_residual.result (search rules)

pub returns-in_err-answered-clause-turned : goal.returns-in_err-answered-clause-turned
returns-in_err-answered-clause-turned g c =
    ran_out_then g.D.Disk c.args.disk.now c.make_call.new.disk (limit_of c.args.self) _ _ _ _ _
    (Ok c.in_ok-made.made) c.in_ok-made.ensures.turned _ _ _
    c.from_residual-in_err-answered.result
    (memory_stop c.from_residual-in_err-answered.result c.from_residual-in_err-answered.ensures.1)

pub returns-clause-turned : goal.returns-clause-turned
unfolding standing_of
returns-clause-turned g c =
    let kinds = kinds_of c.args.handlers.now in
    let m = c.in_ok-made.made in
    let p = c.in_ok-answered.answered in
    let told = c.in_ok-answered.ensures in
    done_so g.D.Disk c.args.disk.now c.make_call.new.disk (limit_of c.args.self) _ _ _ _ _
    (Ok m) c.in_ok-made.ensures.turned
    (λ (p : Engine × Output). IsAt g.D.Disk c.make_call.new.disk p.0)
    (AnswersCall c.args.number c.args.wanted.now.name kinds c.args.self) m p refl
    (λ bodies holds. subst (λ (e : Engine). IsAt g.D.Disk c.make_call.new.disk e bodies)
    (sym told.engine) holds)
    (λ u later so. record {
      answers = turned_so c.args.number c.args.wanted.now.name u.turned
          (standing_of kinds later c.args.self) m p.0 p.1 so.after told.engine told.text
          told.emissions told.refused told.end;
      later_so = so.later_so;
    })

pub returns-in_err-answered-clause-cause : goal.returns-in_err-answered-clause-cause
returns-in_err-answered-clause-cause g c =
    memory_cause (g.D.Disk.faults c.args.disk.now) (g.D.Disk.faults c.make_call.new.disk)
    c.in_ok-made.made _
    (memory_stop c.from_residual-in_err-answered.result c.from_residual-in_err-answered.ensures.1)
    c.in_ok-made.ensures.cause

pub returns-clause-cause : goal.returns-clause-cause
returns-clause-cause g c =
    done_cause (g.D.Disk.faults c.args.disk.now) (g.D.Disk.faults c.make_call.new.disk)
    c.in_ok-made.made _ c.in_ok-made.ensures.cause
