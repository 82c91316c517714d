-- The lines of a script that may be played in a sound world.
use Rattle.std.proofs.Common.{◌≡◌, ℕ, ◌≤◌, List, [], ◌∷◌, refl, sym, subst}
use Rattle.std.specs.List.{AllByRecursion}
use Rattle.rx_value.specs.Named.{put_named}
use Rattle.rx_handler.specs.Handlers.{Kinds}
use Rattle.rx_reply.specs.declared.turn.TurnEnd.{TurnEnd}
use Rattle.rx_reply.specs.declared.turn.TurnEnd.TheVariants.{Quiet, Lost, Clock, More}
use Rattle.rx_session.specs.Session.{Session}
use Rattle.rx_sync.specs.Asks.{Asks, asks_of}
use Rattle.rx_sync.specs.Exchange.{Terms, world_after}
use Rattle.rx_sync.specs.Laws.{ComeSoundly, IsReady, MayTurn}
use Rattle.rx_sync.specs.Sweep.{Sweep, Swept, sweep, swept_on, turn_in}
use Rattle.rx_sync.specs.Turn.{Turned}
use Rattle.rx_sync.specs.declared.sweeping.Step.{Step as SweepStep}
use Rattle.rx_sync.proofs.Staying.{made_after, ready_after, soundly_in_turn}
use Rattle.rx_sync.proofs.Turns.{turn_again, turn_sound}
use Rattle.rx_sync.proofs.Worlds.{after-append, linked_at, sound_after}
use Rattle.rx_world.specs.Made.{IsMadeWorld}
use Rattle.rx_world.specs.Sound.{IsSoundWorld}
use Rattle.rx_world.specs.World.{World}
use Rattle.rx_engine.specs.Lines.{Task, answered, turns, calls, sweeps, delivers, task}
use Rattle.rx_engine.specs.Remembered.{AreRemembered}
use Rattle.rx_engine.specs.Standing.{Standing}
use Rattle.rx_engine.specs.Sweeping.{sweep_by}
use Rattle.rx_engine.specs.Sweeps.{CanSweep}
use Rattle.rx_engine.specs.Turning.{CanTurn, terms}
use Rattle.rx_engine.proofs.CanSweeps.{can_sweep}
use Rattle.rx_engine.proofs.CanTurns.{can_call, can_turn}
use Rattle.rx_engine.proofs.Remembering.{remembered_after, remembered_put, remembers_lawful}
use Rattle.rx_steps.specs.History.{Lasting}
use Rattle.rx_steps.specs.Scripts.{EachHasNumbers, IsInOrderFor, IsSoundStanding, MayBePlayed, MayBeSwept, SoundLinesMayBePlayed}

-- what a sound standing has
pub record IsGood (w : World) (asks : List (List ℕ × Asks)) : Type 0 where
  pub made : IsMadeWorld w
  pub sound : IsSoundWorld w
  pub remembered : AreRemembered w asks

ready_to : (kinds : Kinds) (s : Session) (name : List ℕ) → IsMadeWorld s.world
    → IsSoundWorld s.world → CanTurn kinds s name → IsReady s.world name kinds
ready_to kinds s name made sound can = record {
  made = made;
  sound = sound;
  here = can.here;
  kind = can.kind;
  handler = can.handler;
}

-- ---- a turn

module _ (t : Terms) (batch budget : ℕ) (w : World) (asks : List (List ℕ × Asks))
    (some : 1 ≤ batch) (good : IsGood w asks) (ready : IsReady w t.name t.kinds) where
  may_turn : MayTurn t w (asks_of t.name asks)
  may_turn =
      record { ready = ready; asks = remembers_lawful w asks t.name good.remembered }

  abbrev done : (u : Turned) → World
  done u = world_after u.records w

  good_then : (u : Turned) → ComeSoundly w u.records → MayTurn t (done u) u.asks
      → IsGood (done u) (put_named asks t.name u.asks)
  good_then u come again =
      let in_turn = soundly_in_turn w u.records come in
      let here = again.ready.here in
      let k = linked_at (done u) again.ready.made t.name here.replication here.held in
      record {
        made = made_after w u.records good.made in_turn;
        sound = sound_after w u.records good.sound come;
        remembered = remembered_put (done u) asks t.name u.asks here.replication k.fork here.held
            k.held again.asks (remembered_after u.records w asks in_turn good.remembered);
      }

-- ---- a sweep

module _ (v : Sweep) (some : 1 ≤ v.batch) where
  abbrev AreReady : World → List SweepStep → Type 0
  AreReady w xs = AllByRecursion (λ (x : SweepStep). IsReady w x.name v.kinds) xs

  ready_then : (xs : List SweepStep) (w : World) (u : Turned) → ComeSoundly w u.records
      → AreReady w xs → AreReady (world_after u.records w) xs
  ready_then [] w u come all = tt
  ready_then (x ∷ xs) w u come all = (
    ready_after u.records w x.name v.kinds all.0 come,
    ready_then xs w u come all.1,
  )

  sweep_may : (l : Lasting) (xs : List SweepStep) (w : World) (asks : List (List ℕ × Asks))
      → IsGood w asks → AreReady w xs → EachHasNumbers l v xs w asks → MayBeSwept l v xs w asks
  sweep_may l [] w asks good all few = tt
  sweep_may l (x ∷ xs) w asks good all few =
      let t : Terms = terms x.name v.now v.kinds in
      let a : Asks = asks_of x.name asks in
      let u : Turned = turn_in v x.name w asks in
      let may = may_turn t v.batch v.budget w asks some good all.0 in
      let come = turn_sound t v.batch v.budget [] w a some may in
      let again = turn_again t v.batch v.budget [] w a some may in (
        record { some = some; may = may; few = few.0 },
        (λ is. sweep_may l xs (world_after u.records w) (put_named asks x.name u.asks)
            (good_then t v.batch v.budget w asks some good all.0 u come again)
            (ready_then xs w u come all.1) (few.1 is)),
      )

  -- what it leaves
  pub sweep_good : (xs : List SweepStep) (w : World) (asks : List (List ℕ × Asks))
      → IsGood w asks → AreReady w xs
      → IsGood (world_after (sweep v xs w asks).records w) (sweep v xs w asks).asks
  sweep_good [] w asks good all = good
  sweep_good (x ∷ xs) w asks good all =
      let t : Terms = terms x.name v.now v.kinds in
      let a : Asks = asks_of x.name asks in
      let u : Turned = turn_in v x.name w asks in
      let may = may_turn t v.batch v.budget w asks some good all.0 in
      let come = turn_sound t v.batch v.budget [] w a some may in
      let again = turn_again t v.batch v.budget [] w a some may in
      let next : World = world_after u.records w in
      let then = put_named asks x.name u.asks in
      let here = good_then t v.batch v.budget w asks some good all.0 u come again in
      let on : Swept = swept_on u.ended then (sweep v xs next then) in
      subst (λ (z : World). IsGood z on.asks) (sym (after-append u.records on.records w))
      (behind u.ended next then (sweep v xs next then) here
      (sweep_good xs next then here (ready_then xs w u come all.1)))
    where
      behind : (end : TurnEnd) (next : World) (then : List (List ℕ × Asks)) (rest : Swept)
          → IsGood next then → IsGood (world_after rest.records next) rest.asks
          → IsGood (world_after (swept_on end then rest).records next)
          (swept_on end then rest).asks
      behind Quiet next then rest good more = more
      behind Lost next then rest good more = good
      behind Clock next then rest good more = good
      behind More next then rest good more = good

pub ready_all : (kinds : Kinds) (s : Session) (xs : List SweepStep) → IsMadeWorld s.world
    → IsSoundWorld s.world → CanSweep kinds s xs
    → AllByRecursion (λ (x : SweepStep). IsReady s.world x.name kinds) xs
ready_all kinds s [] made sound can = tt
ready_all kinds s (x ∷ xs) made sound can =
    (ready_to kinds s x.name made sound can.0, ready_all kinds s xs made sound can.1)

-- ---- a line

module _ (l : Lasting) (line : List ℕ) (s : Standing) (good : IsSoundStanding s) where
  by_task : (t : Task) → task s.kinds line s.session ≡ t → IsInOrderFor l t s → MayBePlayed l t s
  by_task (answered o) is order = order.0
  by_task (turns u) is order =
      let can = can_turn s.kinds line s.session u is in
      record {
        some = order.0;
        may = record {
          ready = ready_to s.kinds s.session u.name good.made good.sound can;
          asks = remembers_lawful s.session.world s.asks u.name good.remembered;
        };
        few = order.1;
      }
  by_task (calls c) is order =
      let can = can_call s.kinds line s.session c is in
      record {
        some = order.0;
        may = record {
          ready = record {
            made = good.made;
            sound = good.sound;
            there = can.there;
            kind = can.kind;
            handler = can.handler;
          };
          asks = remembers_lawful s.session.world s.asks c.name good.remembered;
        };
      }
  by_task (sweeps v) is order =
      let can = can_sweep s.kinds line s.session v good.made is in
      sweep_may (sweep_by v s) order.0 l v.steps s.session.world s.asks
      (record { made = good.made; sound = good.sound; remembered = good.remembered })
      (ready_all s.kinds s.session v.steps good.made good.sound can) order.1
  by_task (delivers d) is order = record { may = order.0; none = order.1 }

pub sound_lines_may_be_played : SoundLinesMayBePlayed
sound_lines_may_be_played l line s good order =
    by_task l line s good (task s.kinds line s.session) refl order
