-- A turn is a list of steps.
use Rattle.std.proofs.Common.{ℕ, zero, suc, ◌+◌, ◌≤◌, List, [], Option, Some, None, refl, sym, subst, arith, append-nil}
use Rattle.rx_replication.specs.Steps.{System, Step, run}
use Rattle.rx_replication.specs.Taking.{Resolve}
use Rattle.rx_fork.specs.declared.ask.Asked.{Asked}
use Rattle.rx_reply.specs.declared.turn.TurnEnd.{TurnEnd}
use Rattle.rx_script.specs.declared.happening.Happening.{Happening}
use Rattle.rx_sync.specs.Asking.{asked_in}
use Rattle.rx_sync.specs.Asks.{Asks, next_number}
use Rattle.rx_sync.specs.Exchange.{Terms, Course, course, course_by, world_after}
use Rattle.rx_sync.specs.Turn.{Turned, end_by, first_of, going_on, rest_of, turn}
use Rattle.rx_sync.proofs.Staying.{soundly_in_turn}
use Rattle.rx_sync.proofs.Turns.{CourseGoesWell, course_again, course_well}
use Rattle.rx_sync.proofs.Worlds.{after-append}
use Rattle.rx_world.specs.World.{World}
use Rattle.rx_steps.specs.Exchanging.{AreFirst, AreLater, AreTurnSteps, BeginWith, TurnsAreSteps, exchange_steps}
use Rattle.rx_steps.specs.Shows.{LeadsTo}
use Rattle.rx_steps.proofs.Courses.{exchanges_are_steps}
use Rattle.rx_steps.proofs.Going.{leads_both}
use Rattle.rx_steps.proofs.Staying.{resolves_after}

-- a request more takes one number
few_by : (t : Terms) (x : Happening) (w : World) (a : Asks) (o : Option Asked)
    → (course_by t x w a o).asks.n ≤ a.n + 1
few_by t x w a None = omega arith
few_by t x w a (Some asked) = omega arith

pub few_more : (t : Terms) (batch : ℕ) (x : Happening) (w : World) (a : Asks)
    → (course t batch x w a).asks.n ≤ a.n + 1
few_more t batch x w a = few_by t x w a (asked_in w t.name (next_number a) batch)

module _ (by : Resolve) (t : Terms) (w : World) (s : System) (c : Course) (rest : Turned)
    (First Rest : List Step → Type 0) (l : LeadsTo by s c.asks (world_after c.records w) t.name)
    (begin : First l.steps) where
  going : (o : Option TurnEnd)
      → (m : LeadsTo by (run by l.steps s) rest.asks
      (world_after rest.records (world_after c.records w)) t.name) × Rest m.steps
      → (m : LeadsTo by s (going_on c o rest).asks (world_after (going_on c o rest).records w)
      t.name) × BeginWith First (AreLater o Rest) m.steps
  going None more =
      subst (λ (v : World). (m : LeadsTo by s rest.asks v t.name)
      × BeginWith First Rest m.steps) (sym (after-append c.records rest.records w)) (
        leads_both by s c.asks rest.asks (world_after c.records w)
            (world_after rest.records (world_after c.records w)) t.name l more.0,
        record {
          first = l.steps;
          rest = more.0.steps;
          both = refl;
          begin = begin;
          go_on = more.1;
        },
      )
  going (Some end) more =
      subst (λ (v : World). (m : LeadsTo by s c.asks v t.name)
      × BeginWith First (AreLater (Some end) Rest) m.steps) (sym (after-append c.records [] w)) (
        l,
        record {
          first = l.steps;
          rest = [];
          both = append-nil l.steps;
          begin = begin;
          go_on = refl;
        },
      )

pub turns_are_steps : TurnsAreSteps
turns_are_steps t batch zero over w a by s some may few by_so shows =
    (record { steps = []; lawful = tt; shown = shows }, refl)
turns_are_steps t batch (suc budget) over w a by s some may few by_so shows =
    let c : Course = course t batch (first_of over) w a in
    let l = exchanges_are_steps t batch (first_of over) w a by s some may (omega (arith, few))
    by_so shows in
    let well : CourseGoesWell t batch w c = course_well t batch some (first_of over) w a may in
    let one = few_more t batch (first_of over) w a in
    going by t w s c (turn t batch budget (rest_of over) (world_after c.records w) c.asks)
    (AreFirst (exchange_steps t batch (first_of over) c.asks) c.came)
    (AreTurnSteps t batch budget (rest_of over) (world_after c.records w) c.asks) l.0 l.1
    (end_by batch c.came)
    (turns_are_steps t batch budget (rest_of over) (world_after c.records w) c.asks by
    (run by l.0.steps s) some (course_again t batch w a c may well) (omega (arith, few, one))
    (resolves_after t.kinds w t.name by c.records (soundly_in_turn w c.records well.come) by_so)
    l.0.shown)
