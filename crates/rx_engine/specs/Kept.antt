-- What holds of a line in a sound session: of its meaning, and of the world that it leaves.
use Rattle.std.specs.Prelude.{◌≡◌, ◌≤◌, ℕ, List}
use Rattle.rx_session.specs.Doing.{MayDo}
use Rattle.rx_session.specs.Session.{Session, queued_in}
use Rattle.rx_session.specs.Streams.{AreStreamed}
use Rattle.rx_sync.specs.Asks.{asks_of}
use Rattle.rx_sync.specs.Delivery.{MayDeliver}
use Rattle.rx_sync.specs.Laws.{IsReady}
use Rattle.rx_sync.specs.Updates.{EachKeepsUpdates, EachSweptKeepsUpdates}
use Rattle.rx_world.specs.World.{World}
use Rattle.rx_engine.specs.Engine.{IsBounded, IsUnharmedBy, IsWellSwept, LevelIsEqual, QuietIsLevel, WaitsForPushes}
use Rattle.rx_engine.specs.Lines.{Task, answered, turns, calls, sweeps, delivers, task}
use Rattle.rx_engine.specs.Standing.{Standing}
use Rattle.rx_engine.specs.Sweeping.{sweep_by}
use Rattle.rx_engine.specs.Turning.{WantedTurn, terms}

-- ---- its meaning

-- no exchange of the turns that a line makes within the journal loses an update
abbrev pub TurnsKeepUpdates : Task → Standing → Type 0
TurnsKeepUpdates (turns t) s =
    EachKeepsUpdates (terms t.name s.session.moment s.kinds) t.batch t.budget t.link
    s.session.world (asks_of t.name s.asks)
TurnsKeepUpdates (sweeps v) s = EachSweptKeepsUpdates (sweep_by v s) v.steps s.session.world s.asks
TurnsKeepUpdates other s = Unit {0}

-- the turn that a line makes within the journal may be made
abbrev pub TurnsAreReady : List ℕ → Standing → Type 0
TurnsAreReady line s =
    (t : WantedTurn) → task s.kinds line s.session ≡ turns t
    → IsReady s.session.world t.name s.kinds

-- what may be asked of the meaning of a line
pub record IsWellMeant (line : List ℕ) (s : Standing) : Type 0 where
  -- a turn that it makes may be made: its world is sound, and its handler is there
  pub ready : TurnsAreReady line s
  -- no exchange of its turns loses an update
  pub updates : TurnsKeepUpdates (task s.kinds line s.session) s
  -- no master elsewhere, whatever it sends, harms a fork, nor loses an update of it
  pub unharmed : IsUnharmedBy line s
  -- a turn whose link does nothing comes to its end in time
  pub bounded : IsBounded line s
  -- a delivery to a fork that has something to push writes nothing
  pub waits : WaitsForPushes line s
  -- each event that waits in a stream is one of what its master committed
  pub streamed : AreStreamed s.session.world s.session.streams

-- What a line comes to may be done in a session: what it does may be, an exchange is of one
-- document at least, and a delivery is of good events to a fork of a master of this journal.
abbrev pub IsInOrder : Task → Session → Type 0
IsInOrder (answered o) s = MayDo o.doing s
IsInOrder (turns t) s = 1 ≤ t.batch
IsInOrder (calls c) s = 1 ≤ c.batch
IsInOrder (sweeps v) s = 1 ≤ v.batch
IsInOrder (delivers d) s = MayDeliver s.world d.name (queued_in d.name s)

-- ---- the world after it

-- what may be asked of the world that a line leaves
pub record IsLineKept (line : List ℕ) (s : Standing) (next : World) : Type 0 where
  -- where a turn ends quiet, its fork and its master have the same states
  pub quiet : QuietIsLevel line s next
  -- where a delivery answers level, so have they
  pub level : LevelIsEqual line s next
  -- where a sweep ends quiet, each collection of its tree has the states of the root, and three
  -- exchanges a key and one are enough for each of its turns
  pub swept : IsWellSwept line s next
