-- A sweep in play.
use Rattle.std.specs.Prelude.{◌≡◌, ℕ, List}
use Rattle.std.specs.List.{AllByRecursion}
use Rattle.rx_value.specs.Named.{by_bytes, put_named}
use Rattle.rx_handler.specs.Handlers.{Kinds}
use Rattle.rx_reply.specs.declared.swept.Swept.{Swept as SweptTurn}
use Rattle.rx_session.specs.Session.{Session}
use Rattle.rx_sync.specs.Asks.{Asks}
use Rattle.rx_sync.specs.Sweep.{Sweep, Swept}
use Rattle.rx_sync.specs.Turn.{Turned}
use Rattle.rx_sync.specs.declared.sweeping.Step.{Step}
use Rattle.rx_world.specs.Made.{IsMadeWorld}
use Rattle.rx_world.specs.Sound.{IsSoundWorld}
use Rattle.rx_engine.specs.Marks.{AreMarked}
use Rattle.rx_engine.specs.Play.{Follows}
use Rattle.rx_engine.specs.Remembered.{AreRemembered}
use Rattle.rx_engine.specs.Turning.{CanTurn}
use Rattle.rx_engine.specs.declared.play.Play.{Play}
use Rattle.rx_engine.specs.declared.remembered.Remembered.{Remembered}
use Rattle.rx_engine.specs.declared.sweeping.MadeSweep.{MadeSweep}

-- of so many documents an exchange, and so many exchanges at most each turn, at that moment
abbrev pub sweep_terms : ℕ → ℕ → ℕ → Kinds → Sweep
sweep_terms batch budget now kinds =
    record { batch = batch; budget = budget; now = now; kinds = kinds }

-- the world in play is sound, and what is remembered is of that world
pub record IsGoodPlay (p : Play) (r : Remembered) : Type 0 where
  pub made : IsMadeWorld p.playing.world
  pub sound : IsSoundWorld p.playing.world
  pub remembers : AreRemembered p.playing.world (by_bytes r.asks.entries)
  pub marked : AreMarked p.playing.world r.marks

-- each of these turns can be made
abbrev pub CanSweep : Kinds → Session → List Step → Type 0
CanSweep kinds s steps = AllByRecursion (λ step. CanTurn kinds s step.name) steps

-- a turn was made from a line in play on
pub record IsStepped (step : Step) (t : Turned) (p q : Play) (made : SweptTurn)
    (before now : List (List ℕ × Asks)) : Type 0 where
  pub follows : Follows p t.records q
  pub asks : now ≡ put_named before step.name t.asks
  pub made_so : made
      ≡ record { pass = step.pass; name = step.name; exchanges = t.exchanges; end = t.ended }

-- turns were made from a line in play on
pub record IsSwept (t : Swept) (first : Play) (made : MadeSweep) (now : List (List ℕ × Asks))
    : Type 0 where
  pub follows : Follows first t.records made.play
  pub asks : now ≡ t.asks
  pub turns : made.turns ≡ t.turns
  pub ended : made.ended ≡ t.ended
