use Rattle.std.proofs.Common.{◌∙◌, ◌++◌, List, [], length, refl, sym, ap, subst}
use Rattle.std.proofs.lemmas.Option.{slice_get_read}
use Rattle.std.proofs.Math.ListN.{drop_of_length-le}
use Rattle.rx_reply.specs.declared.turn.TurnEnd.TheVariants.{Quiet}
use Rattle.rx_handler.specs.Shown.{kinds_of}
use Rattle.rx_reply.specs.declared.swept.Swept.{Swept as SweptTurn}
use Rattle.rx_sync.specs.Sweep.{sweep}
use Rattle.rx_sync.specs.declared.sweeping.Step.{Step}
use Rattle.rx_value.specs.Named.{by_bytes}
use Rattle.rx_engine.specs.Sweeps.{CanSweep, IsSwept, sweep_terms}
use Rattle.rx_engine.specs.declared.sweeping.MadeSweep.{MadeSweep}
use Rattle.rx_engine.proofs.Staging.{follows_none}
use Rattle.rx_engine.proofs.SweepSteps.{all_swept, can_step, swept_further, swept_last}
use Rattle.rx_engine.proofs.sweeping.sweep_all.Goals as goal

pub loop-step-init : goal.loop-step-init
loop-step-init g c =
    let kinds = kinds_of c.args.handlers.now in
    let v = c.args.wanted.now in
    let first = c.args.first in
    let asks = by_bytes c.args.remembered.now.asks.entries in
    let steps = c.deref-step-items.result.now in
    let total = sweep (sweep_terms v.batch v.budget c.args.now kinds) steps
    first.playing.world asks in
    record {
      good = c.requires.good;
      can = subst (λ (xs : List Step). CanSweep kinds first.playing xs)
          (sym c.deref-step-items.ensures.value) c.requires.can;
      done = [];
      follows = follows_none first;
      records = refl;
      asks = refl;
      turns = ap (λ (ts : List SweptTurn). ts ++ total.turns) (sym c.new-turns.ensures);
      ended = refl;
    }

pub make_step-requires-clause-good : goal.make_step-requires-clause-good
make_step-requires-clause-good g c = c.loop-step.invariant.good

pub make_step-requires-clause-can : goal.make_step-requires-clause-can
make_step-requires-clause-can g c =
    let kinds = kinds_of c.args.handlers.now in
    let v = c.args.wanted.now in
    let first = c.args.first in
    let asks = by_bytes c.args.remembered.now.asks.entries in
    let steps = c.deref-step-items.result.now in
    let total = sweep (sweep_terms v.batch v.budget c.args.now kinds) steps
    first.playing.world asks in
    let i = c.loop-step.step-index in
    let step = c.step-item.result in
    let at = slice_get_read steps (length steps) i step refl c.loop-step-test.true c.step-item.is in
    can_step kinds v.batch v.budget c.args.now first steps total c.requires.batch i c.loop-step.play
    c.loop-step.remembered c.loop-step.turns c.loop-step.invariant step at

pub returns-then-not-is_quiet-clause-swept : goal.returns-then-not-is_quiet-clause-swept
returns-then-not-is_quiet-clause-swept g c =
    let kinds = kinds_of c.args.handlers.now in
    let v = c.args.wanted.now in
    let first = c.args.first in
    let asks = by_bytes c.args.remembered.now.asks.entries in
    let steps = c.deref-step-items.result.now in
    let total = sweep (sweep_terms v.batch v.budget c.args.now kinds) steps
    first.playing.world asks in
    let i = c.loop-step.step-index in
    let step = c.step-item.result in
    let at = slice_get_read steps (length steps) i step refl c.loop-step-test.true c.step-item.is in
    let last : MadeSweep = record {
      play = c.in_ok-next.next;
      turns = c.push.new.self;
      ended = c.in_ok-next.turn.end;
    } in
    subst (λ (xs : List Step). IsSwept (sweep (sweep_terms v.batch v.budget c.args.now kinds) xs
    first.playing.world asks) first last (by_bytes c.make_step.new.remembered.asks.entries))
    c.deref-step-items.ensures.value
    (swept_last kinds v.batch v.budget c.args.now first steps total c.requires.batch i
    c.loop-step.play
    c.loop-step.remembered c.loop-step.turns c.loop-step.invariant step at c.in_ok-next.next
    c.in_ok-next.turn c.make_step.new.remembered c.in_ok-next.ensures.stepped
    c.in_ok-next.ensures.good
    c.push.new.self c.in_ok-push.ensures.ok (sym c.is_quiet.ensures ∙ c.if-not-is_quiet.true) last
    refl refl refl)

pub loop-step-preserved : goal.loop-step-preserved
loop-step-preserved g c =
    let kinds = kinds_of c.args.handlers.now in
    let v = c.args.wanted.now in
    let first = c.args.first in
    let asks = by_bytes c.args.remembered.now.asks.entries in
    let steps = c.deref-step-items.result.now in
    let total = sweep (sweep_terms v.batch v.budget c.args.now kinds) steps
    first.playing.world asks in
    let i = c.loop-step.step-index in
    let step = c.step-item.result in
    let at = slice_get_read steps (length steps) i step refl c.loop-step-test.true c.step-item.is in
    swept_further kinds v.batch v.budget c.args.now first steps total c.requires.batch i
    c.loop-step.play c.loop-step.remembered c.loop-step.turns c.loop-step.invariant step at
    c.in_ok-next.next c.in_ok-next.turn c.make_step.new.remembered c.in_ok-next.ensures.stepped
    c.in_ok-next.ensures.good c.push.new.self c.in_ok-push.ensures.ok
    (sym c.is_quiet.ensures ∙ c.if-not-is_quiet.false)

pub returns-clause-swept : goal.returns-clause-swept
returns-clause-swept g c =
    let kinds = kinds_of c.args.handlers.now in
    let v = c.args.wanted.now in
    let first = c.args.first in
    let asks = by_bytes c.args.remembered.now.asks.entries in
    let steps = c.deref-step-items.result.now in
    let total = sweep (sweep_terms v.batch v.budget c.args.now kinds) steps
    first.playing.world asks in
    let last : MadeSweep =
    record { play = c.loop-step.play; turns = c.loop-step.turns; ended = Quiet } in
    subst (λ (xs : List Step). IsSwept (sweep (sweep_terms v.batch v.budget c.args.now kinds) xs
    first.playing.world asks) first last (by_bytes c.loop-step.remembered.asks.entries))
    c.deref-step-items.ensures.value
    (all_swept kinds v.batch v.budget c.args.now first steps total c.loop-step.step-index
    c.loop-step.play c.loop-step.remembered c.loop-step.turns c.loop-step.invariant
    (drop_of_length-le steps c.loop-step-test.false) last refl refl refl)

pub returns-clause-good : goal.returns-clause-good
returns-clause-good g c = c.loop-step.invariant.good
