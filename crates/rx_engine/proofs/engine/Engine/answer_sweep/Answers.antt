use Rattle.std.proofs.Common.{sym, ap, subst, rules}
use Rattle.rx_handler.specs.Shown.{kinds_of}
use Rattle.rx_engine.specs.Engine.{IsAt, limit_of, standing_of}
use Rattle.rx_engine.specs.Shown.{sweep_of}
use Rattle.rx_engine.specs.declared.engine.Engine.{Engine}
use Rattle.rx_engine.proofs.Committing.{commits_before, commits_so, commits_stopped}
use Rattle.rx_engine.proofs.Meanings.{swept_so}
use Rattle.rx_store.proofs.Stops.{memory_stop}
use Rattle.rx_engine.proofs.engine.Engine.answer_sweep.Goals as goal

pub returns-in_err-made-clause-commits : goal.returns-in_err-made-clause-commits
returns-in_err-made-clause-commits g c =
    commits_stopped g.D.Disk c.args.disk.now c.make_sweep.new.disk c.args.self _ _ _
    c.in_err-made.field-0.0 c.from_residual.result (search rules) c.in_err-made.ensures.commits

pub returns-in_err-answered-clause-commits : goal.returns-in_err-answered-clause-commits
returns-in_err-answered-clause-commits g c =
    commits_before g.D.Disk c.args.disk.now c.make_sweep.new.disk c.args.self _ _ _ _
    c.from_residual-in_err-answered.result
    (memory_stop c.from_residual-in_err-answered.result c.from_residual-in_err-answered.ensures.1)
    c.in_ok-made.ensures.commits

pub returns-clause-answers : goal.returns-clause-answers
unfolding standing_of
returns-clause-answers g c = λ heard.
    let s = standing_of (kinds_of c.args.handlers.now) heard c.args.self in
    let then = c.in_ok-made.ensures.swept in
    let told = c.in_ok-answered.ensures in
    swept_so c.args.number (sweep_of c.args.wanted.now) s c.in_ok-made.made
    c.in_ok-answered.answered.0 c.in_ok-answered.answered.1
    (record {
      session = then.session;
      asks = then.asks;
      due = then.due;
      turns = then.turns;
      ended = then.ended;
    })
    told.engine told.text told.emissions told.refused told.end

pub returns-clause-commits : goal.returns-clause-commits
returns-clause-commits g c =
    let engine = c.in_ok-answered.ensures.engine in
    commits_so g.D.Disk c.args.disk.now c.make_sweep.new.disk c.args.self _ _ _ _ _
    (λ bodies held.
    subst (λ (e : Engine). IsAt g.D.Disk c.make_sweep.new.disk e bodies) (sym engine)
    held) (ap (λ (e : Engine). limit_of e) engine) c.in_ok-made.ensures.commits
