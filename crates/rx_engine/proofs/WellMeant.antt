-- What may be asked of a line in a sound session.
use Rattle.std.proofs.Common.{◌≡◌, ℕ, ◌≤◌, List, [], ◌∷◌, refl, sym, subst}
use Rattle.rx_script.specs.declared.happening.Happening.{Happening}
use Rattle.rx_session.specs.Doing.{Doing, MayDo}
use Rattle.rx_session.specs.Streams.{AreStreamed}
use Rattle.rx_sync.specs.Asks.{Asks, asks_of}
use Rattle.rx_sync.specs.Bound.{EveryOkTurn}
use Rattle.rx_sync.specs.Exchange.{Terms}
use Rattle.rx_sync.specs.Laws.{MayTurn}
use Rattle.rx_sync.specs.Updates.{MayTurnEach}
use Rattle.rx_sync.specs.declared.sweeping.Step.{Step}
use Rattle.rx_sync.proofs.Bound.{exchanges_lower, turn_in_time, turn_pushes_twice}
use Rattle.rx_sync.proofs.Elsewhere.{remote_turn_unharmed}
use Rattle.rx_sync.proofs.SweptTurns.{sweeps_keep_updates}
use Rattle.rx_sync.proofs.Updates.{turn_keeps}
use Rattle.rx_world.specs.World.{World}
use Rattle.rx_engine.specs.Engine.{IsUnharmedBy, OfOkTurn}
use Rattle.rx_engine.specs.Kept.{IsInOrder, IsWellMeant, TurnsKeepUpdates}
use Rattle.rx_engine.specs.Lines.{Task, answered, turns, calls, sweeps, delivers, task}
use Rattle.rx_engine.specs.Outcome.{Outcome}
use Rattle.rx_engine.specs.SoundSession.{HasSoundWorld, with_asks}
use Rattle.rx_engine.specs.Standing.{Standing}
use Rattle.rx_engine.specs.Sweeping.{WantedSweep, sweep_by}
use Rattle.rx_engine.specs.Sweeps.{CanSweep}
use Rattle.rx_engine.specs.Turning.{WantedTurn, terms}
use Rattle.rx_engine.proofs.AfterCalls.{may_call}
use Rattle.rx_engine.proofs.AfterDeliveries.{line_waits, may_deliver}
use Rattle.rx_engine.proofs.AfterTurns.{may}
use Rattle.rx_engine.proofs.Batches.{TaskHasBatch, line_has_batch}
use Rattle.rx_engine.proofs.CanSweeps.{can_sweep}
use Rattle.rx_engine.proofs.CanTurns.{can_call, can_deliver, can_turn}
use Rattle.rx_engine.proofs.Remembering.{remembers_lawful}

module _ (line : List ℕ) (s : Standing) (good : HasSoundWorld (with_asks s.session s.asks)) where
  abbrev w : World
  w = s.session.world

  abbrev comes_to : Task
  comes_to = task s.kinds line s.session

  -- an exchange is of one document at least
  batch : (t : Task) → comes_to ≡ t → TaskHasBatch t
  batch t is = subst TaskHasBatch is (line_has_batch s.kinds line s.session)

  -- ---- a turn

  may_turn : (u : WantedTurn) → comes_to ≡ turns u
      → MayTurn (terms u.name s.session.moment s.kinds) w (asks_of u.name s.asks)
  may_turn u is =
      may u s (batch (turns u) is) good.made good.sound (can_turn s.kinds line s.session u is)
      good.remembered

  ok_turn : {P : Terms → ℕ → ℕ → List Happening → World → Asks → Type 0} → EveryOkTurn P
      → OfOkTurn P line s
  ok_turn {P} law u is ok =
      law (terms u.name s.session.moment s.kinds) u.batch u.budget u.link w
      (asks_of u.name s.asks) (batch (turns u) is) (may_turn u is) ok

  -- ---- a sweep

  may_each : (v : WantedSweep) (steps : List Step) → CanSweep s.kinds s.session steps
      → MayTurnEach (sweep_by v s) steps w s.asks
  may_each v [] can = tt
  may_each v (step ∷ steps) can = (
    record {
      ready = record {
        made = good.made;
        sound = good.sound;
        here = can.0.here;
        kind = can.0.kind;
        handler = can.0.handler;
      };
      asks = remembers_lawful w s.asks step.name good.remembered;
    },
    may_each v steps can.1,
  )

  -- each of its turns may be made
  pub may_sweep : (v : WantedSweep) → comes_to ≡ sweeps v
      → MayTurnEach (sweep_by v s) v.steps w s.asks
  may_sweep v is = may_each v v.steps (can_sweep s.kinds line s.session v good.made is)

  -- ---- the whole

  updates_by : (t : Task) → comes_to ≡ t → TurnsKeepUpdates t s
  updates_by (turns u) is =
      turn_keeps (terms u.name s.session.moment s.kinds) u.batch u.budget u.link w
      (asks_of u.name s.asks) (batch (turns u) is) (may_turn u is)
  updates_by (sweeps v) is =
      sweeps_keep_updates (sweep_by v s) v.steps w s.asks (batch (sweeps v) is) (may_sweep v is)
  updates_by (answered o) is = tt
  updates_by (calls c) is = tt
  updates_by (delivers d) is = tt

  unharmed : IsUnharmedBy line s
  unharmed c is =
      let some : 1 ≤ c.batch = batch (calls c) is in
      remote_turn_unharmed (terms c.name s.session.moment s.kinds) c.batch c.budget s.heard w
      (asks_of c.name s.asks) some
      (may_call c s some good.made good.sound (can_call s.kinds line s.session c is)
      good.remembered)

  module _ (streamed : AreStreamed w s.session.streams) where
    pub well_meant : IsWellMeant line s
    well_meant = record {
      ready = λ u is. (may_turn u is).ready;
      updates = updates_by comes_to refl;
      unharmed = unharmed;
      bounded = record {
        lowered = ok_turn exchanges_lower;
        twice = ok_turn turn_pushes_twice;
        in_time = ok_turn turn_in_time;
      };
      waits = line_waits line s good.made good.sound streamed;
      streamed = streamed;
    }

    by_task : (t : Task) → comes_to ≡ t
        → ((o : Outcome) → t ≡ answered o → MayDo o.doing s.session) → IsInOrder t s.session
    by_task (answered o) is does = does o refl
    by_task (turns u) is does = batch (turns u) is
    by_task (calls c) is does = batch (calls c) is
    by_task (sweeps v) is does = batch (sweeps v) is
    by_task (delivers d) is does =
        may_deliver d s.session good.made good.sound streamed
        (can_deliver s.kinds line s.session d is)

    -- it is in order, where what it does may be done
    pub in_order : (t : Task) → comes_to ≡ t
        → ((o : Outcome) → t ≡ answered o → MayDo o.doing s.session)
        → IsInOrder comes_to s.session
    in_order t is does =
        subst (λ (t : Task). IsInOrder t s.session) (sym is) (by_task t is does)

-- as the code has it
pub in_order_as : (line : List ℕ) (s : Standing) (o : Outcome) (d : Doing)
    → task s.kinds line s.session ≡ answered o → d ≡ o.doing → MayDo d s.session
    → IsInOrder (task s.kinds line s.session) s.session
in_order_as line s o d is same may =
    subst (λ (t : Task). IsInOrder t s.session) (sym is)
    (subst (λ (d : Doing). MayDo d s.session) same may)
