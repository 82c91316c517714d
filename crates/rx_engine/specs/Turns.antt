-- How a turn begins with an engine, and how it ends with one.
use Rattle.std.specs.Prelude.{◌≡◌, ℕ, List, true, Some}
use Rattle.rx_value.specs.Named.{by_bytes}
use Rattle.rx_session.specs.Emissions.{emissions, settled_session}
use Rattle.rx_sync.specs.Asking.{pending_in}
use Rattle.rx_sync.specs.Asks.{Asks}
use Rattle.rx_world.specs.Made.{IsMadeWorld}
use Rattle.rx_world.specs.Sound.{IsSoundWorld}
use Rattle.rx_engine.specs.Engine.{asks_in, session_of}
use Rattle.rx_engine.specs.Marks.{AreMarked, AreMarkedBut}
use Rattle.rx_engine.specs.Play.{play_of}
use Rattle.rx_engine.specs.Remembered.{AreRemembered}
use Rattle.rx_engine.specs.declared.changing.AfterTurn.{AfterTurn}
use Rattle.rx_engine.specs.declared.engine.Engine.{Engine}
use Rattle.rx_engine.specs.declared.remembered.Remembered.{Remembered}
use Rattle.rx_engine.specs.declared.turning.Turned.{Turned as Made}
use Rattle.rx_engine.specs.declared.turns.Begun.{Begun}

-- an engine was taken apart for a turn of the replication of a name: its world is sound, and what
-- it remembers is of that world
pub record IsBegun (name : List ℕ) (e : Engine) (b : Begun) : Type 0 where
  pub play : b.play ≡ play_of e.journal (session_of e)
  pub now : b.now ≡ (session_of e).moment
  pub none : b.none ≡ true → pending_in (session_of e).world name ≡ Some 0
  pub asks : by_bytes b.remembered.asks.entries ≡ asks_in e
  pub made : IsMadeWorld (session_of e).world
  pub sound : IsSoundWorld (session_of e).world
  pub remembers : AreRemembered (session_of e).world (asks_in e)
  pub marked : AreMarked (session_of e).world b.remembered.marks

-- a turn that was made may end: the world is sound, and what is remembered is of that world, but
-- for the turn's own mark
pub record MayEnd (name : List ℕ) (m : Made) (r : Remembered) : Type 0 where
  pub made : IsMadeWorld m.play.playing.world
  pub sound : IsSoundWorld m.play.playing.world
  pub none : m.pulled ≡ true → pending_in m.play.playing.world name ≡ Some 0
  pub remembers : AreRemembered m.play.playing.world (by_bytes r.asks.entries)
  pub others : AreMarkedBut name m.play.playing.world r.marks

-- it has ended, and all was emitted
pub record IsEnded (m : Made) (asks : List (List ℕ × Asks)) (after : AfterTurn) : Type 0 where
  pub session : session_of after.engine ≡ settled_session m.play.playing
  pub asks_so : asks_in after.engine ≡ asks
  pub journal : after.engine.journal ≡ m.play.journal
  pub due : after.emissions.items ≡ emissions m.play.playing
  pub exchanges : after.exchanges ≡ m.exchanges
  pub ended : after.ended ≡ m.ended
