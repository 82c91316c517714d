-- An engine and its disk.
use Rattle.std.specs.Prelude.{◌≡◌, ◌≢◌, ◌⊎◌, ℕ, ◌+◌, ◌*◌, ◌≤◌, List, [], length, true, Some, None, Result, Ok, IfOk, string_bytes}
use Rattle.rx_disk.specs.declared.disk.Disk.{Ghosts}
use Rattle.rx_outside.specs.declared.stop.Stop.{Stop}
use Rattle.rx_record.specs.Content.{Content}
use Rattle.rx_store.specs.Holds.{Holds}
use Rattle.rx_store.specs.Safe.{HasDiskCause, IsCrashSafe}
use Rattle.rx_reply.specs.Reply.{answer_lines}
use Rattle.rx_handler.specs.Handlers.{Kinds}
use Rattle.rx_reply.specs.declared.turn.TurnEnd.TheVariants.{Quiet, Clock}
use Rattle.rx_script.specs.Asked.{Sweep}
use Rattle.rx_script.specs.Line.{line_of}
use Rattle.rx_script.specs.declared.happening.Happening.{Happening}
use Rattle.rx_session.specs.Emissions.{emissions, settled_session}
use Rattle.rx_session.specs.Session.{Session, has_lost}
use Rattle.rx_sync.specs.Asking.{pending_in}
use Rattle.rx_sync.specs.Asks.{Asks, asks_of}
use Rattle.rx_sync.specs.Bound.{AreOk, EachLowersLeft, EndsInTime, PushesAtMostTwice}
use Rattle.rx_sync.specs.Delivery.{is_level, is_resync}
use Rattle.rx_sync.specs.Exchange.{Terms, world_after}
use Rattle.rx_sync.specs.Laws.{IsLevel}
use Rattle.rx_sync.specs.Remote.{Heard, RemoteTurned}
use Rattle.rx_sync.specs.RemoteLaws.{EachIsUnharmed}
use Rattle.rx_sync.specs.Sweep.{AreEqualIn, HoldsOnly, IsInTree, Swept}
use Rattle.rx_sync.specs.Turn.{Turned}
use Rattle.rx_value.specs.Named.{put_named}
use Rattle.rx_world.specs.World.{World}
use Rattle.rx_engine.specs.Calling.{WantedCall}
use Rattle.rx_engine.specs.Lines.{answered, turns, calls, sweeps, delivers, task}
use Rattle.rx_engine.specs.Meaning.{Meaning, bodies_of, meaning, turn_meaning}
use Rattle.rx_engine.specs.Outcome.{Outcome}
use Rattle.rx_engine.specs.Standing.{Standing, standing_with}
use Rattle.rx_engine.specs.Streams.{WantedDelivery, delivered_by, session_delivered}
use Rattle.rx_engine.specs.Sweeping.{WantedSweep, swept}
use Rattle.rx_engine.specs.Turning.{WantedTurn, terms, turned, written}
use Rattle.rx_engine.specs.declared.changing.AfterTurn.{AfterTurn}
use Rattle.rx_engine.specs.declared.deliveries.AfterDelivery.{AfterDelivery}
use Rattle.rx_engine.specs.declared.sweeps.AfterSweep.{AfterSweep}
use Rattle.rx_engine.specs.declared.engine.Engine.{Engine}
use Rattle.rx_engine.specs.declared.output.Output.{Output}

-- the session of an engine
unfoldable pub session_of : Engine → Session
session_of e = e.session.session

-- what it remembers of requests, by the names of their replications
unfoldable pub asks_in : Engine → List (List ℕ × Asks)
asks_in e = e.session.asks

-- how things stand with an engine, where conflicts are resolved so and that is to be heard
unfoldable pub standing_of : Kinds → List Heard → Engine → Standing
standing_of kinds heard e = standing_with (session_of e) (asks_in e) kinds heard

abbrev pub limit_of : Engine → ℕ
limit_of e = e.journal.limit

-- the disk holds these bodies, and they are the engine's world
abbrev pub IsAt : {D : Type 0} → Ghosts D → D → Engine → List (List ℕ) → Type 0
IsAt d disk e bodies = Holds d disk e.journal bodies (session_of e).world

-- A call was to put these records on the disk, from an engine on, wherever it ended: what holds at
-- each moment, at `Ok` and at `Full`; it keeps the limit, and a stop by the disk shows in its
-- count.
pub record Commits
    {D A : Type 0}
    (d : Ghosts D)
    (old new : D)
    (e : Engine)
    (cs : List Content)
    (engine_in : A → Engine)
    (result : Result A Stop) : Type 0 where
  pub safe : d.tells → (bodies : List (List ℕ)) → IsAt d old e bodies
      → IsCrashSafe d old new bodies (bodies_of cs) (limit_of e) (λ x. IsAt d new (engine_in x))
      result
  pub limit : IfOk result (λ x. limit_of (engine_in x) ≡ limit_of e)
  pub cause : HasDiskCause (d.faults old) (d.faults new) result

-- an engine and an output are those of a meaning, where conflicts are resolved so and that is to be
-- heard later
pub record Answers (kinds : Kinds) (later : List Heard) (m : Meaning) (e : Engine) (o : Output)
    : Type 0 where
  pub next : standing_of kinds later e ≡ m.next
  pub reply : string_bytes o.text ≡ m.reply
  pub emissions : o.emissions ≡ m.emissions
  pub refused : o.refused ≡ m.refused
  pub ended : o.end ≡ m.ended

-- a line left how things stand: it has no records and no emissions, and its output is its answer
-- alone
pub record LeavesAll (number : ℕ) (line : List ℕ) (s : Standing) (e : Engine) (o : Output)
    : Type 0 where
  pub outcome : Outcome
  pub is : task s.kinds line s.session ≡ answered outcome
  pub records : (meaning number line s).records ≡ []
  pub next : standing_of s.kinds s.heard e ≡ s
  pub reply : string_bytes o.text ≡ answer_lines number outcome.answer
  pub emissions : o.emissions ≡ 0
  pub ended : o.end ≡ None

-- an engine is as it is after a turn of the replication of a name, the emissions are those due
-- then, and the exchanges and the end are the turn's
pub record IsAfterTurn (name : List ℕ) (t : Turned) (s : Standing) (m : AfterTurn) : Type 0 where
  pub session : session_of m.engine ≡ settled_session (written t.records s.session)
  pub asks : asks_in m.engine ≡ put_named s.asks name t.asks
  pub due : m.emissions.items ≡ emissions (written t.records s.session)
  pub exchanges : m.exchanges ≡ t.exchanges
  pub ended : m.ended ≡ t.ended

-- an engine is as it is after a turn of the replication of a name to a master elsewhere, where that
-- is still to be heard
pub record IsAfterCall (name : List ℕ) (kinds : Kinds) (e : Engine) (u : RemoteTurned)
    (later : List Heard) (m : AfterTurn) : Type 0 where
  pub after : IsAfterTurn name u.turned (standing_of kinds later e) m
  pub later_so : u.later ≡ later

-- an engine and an output are those of the meaning of such a turn
pub record AnswersCall (number : ℕ) (name : List ℕ) (kinds : Kinds) (e : Engine) (u : RemoteTurned)
    (later : List Heard) (p : Engine × Output) : Type 0 where
  pub answers : Answers kinds later
      (turn_meaning number name u.turned (standing_of kinds later e)) p.0 p.1
  pub later_so : u.later ≡ later

-- where the line is a turn that ends quiet, its fork and its master have the same states in the
-- world after it
abbrev pub QuietIsLevel : List ℕ → Standing → World → Type 0
QuietIsLevel line s next =
    (t : WantedTurn) → task s.kinds line s.session ≡ turns t → (turned t s).ended ≡ Quiet
    → IsLevel next t.name

-- where the line is a delivery that is answered level, its fork and its master have the same states
-- in the world after it
abbrev pub LevelIsEqual : List ℕ → Standing → World → Type 0
LevelIsEqual line s next =
    (d : WantedDelivery) → task s.kinds line s.session ≡ delivers d
    → is_level (world_after (delivered_by d s.session).records s.session.world) d.name ≡ true
    → IsLevel next d.name

-- where the line is a delivery to a fork that has something to push, it writes nothing
abbrev pub WaitsForPushes : List ℕ → Standing → Type 0
WaitsForPushes line s =
    (d : WantedDelivery) → task s.kinds line s.session ≡ delivers d
    → pending_in s.session.world d.name ≢ Some 0 → (delivered_by d s.session).records ≡ []

-- an engine is as it is after a delivery, the emissions are those due then, and its lines and its
-- end are the delivery's
pub record IsAfterDelivery (d : WantedDelivery) (s : Standing) (m : AfterDelivery) : Type 0 where
  pub session : session_of m.engine ≡ settled_session (session_delivered d s.session)
  pub asks : asks_in m.engine ≡ s.asks
  pub due : m.emissions.items ≡ emissions (session_delivered d s.session)
  pub given : m.given ≡ (delivered_by d s.session).given
  pub level : m.level
      ≡ is_level (world_after (delivered_by d s.session).records s.session.world) d.name
  pub resync : m.resync
      ≡ is_resync (has_lost d.name s.session) (delivered_by d s.session).given

-- an engine is as it is after a sweep, the emissions are those due then, and the turns and the end
-- are the sweep's
pub record IsAfterSweep (t : Swept) (s : Standing) (m : AfterSweep) : Type 0 where
  pub session : session_of m.engine ≡ settled_session (written t.records s.session)
  pub asks : asks_in m.engine ≡ t.asks
  pub due : m.emissions.items ≡ emissions (written t.records s.session)
  pub turns : m.turns ≡ t.turns
  pub ended : m.ended ≡ t.ended

-- where the line sweeps over the tree of a collection, this holds of them
abbrev pub OfSweep : (List ℕ → WantedSweep → Type 0) → List ℕ → Standing → Type 0
OfSweep P line s =
    (root : List ℕ) (batch budget : ℕ) → line_of line ≡ Ok (Sweep root batch budget)
    → (v : WantedSweep) → task s.kinds line s.session ≡ sweeps v → P root v

-- a line that sweeps, and the world after it
pub record IsWellSwept (line : List ℕ) (s : Standing) (next : World) : Type 0 where
  -- where it ends quiet, each collection of the tree has the states of its root then
  pub equal : OfSweep
      (λ root v. (swept v s).ended ≡ Quiet → (c : List ℕ) → IsInTree s.session.world c root
      → AreEqualIn next c root) line s
  -- for K keys in the tree, turns of 3 K + 1 exchanges are enough to end quiet, or where no write
  -- time is left
  pub in_time : OfSweep
      (λ root v. (keys : List (List ℕ)) → HoldsOnly s.session.world root keys
      → 3 * length keys + 1 ≤ v.budget
      → ((swept v s).ended ≡ Quiet) ⊎ ((swept v s).ended ≡ Clock)) line s

-- ---- how long a turn takes

-- where the line is a turn whose link does nothing, this holds of that turn
abbrev pub OfOkTurn
    : (Terms → ℕ → ℕ → List Happening → World → Asks → Type 0) → List ℕ → Standing → Type 0
OfOkTurn P line s =
    (t : WantedTurn) → task s.kinds line s.session ≡ turns t → AreOk t.link
    → P (terms t.name s.session.moment s.kinds) t.batch t.budget t.link s.session.world
    (asks_of t.name s.asks)

-- a line that makes a turn whose link does nothing
pub record IsBounded (line : List ℕ) (s : Standing) : Type 0 where
  -- each exchange lowers the pushes left by the documents that it pushes at least
  pub lowered : OfOkTurn EachLowersLeft line s
  -- a document is pushed at most twice, and only one that is to be pushed before the turn
  pub twice : OfOkTurn PushesAtMostTwice line s
  -- as many exchanges as are enough end it quiet, or where no write time is left
  pub in_time : OfOkTurn EndsInTime line s

-- ---- what no master can do

-- where the line makes a turn to a master elsewhere, no exchange of it harms the fork, whatever is
-- heard
abbrev pub IsUnharmedBy : List ℕ → Standing → Type 0
IsUnharmedBy line s =
    (c : WantedCall) → task s.kinds line s.session ≡ calls c
    → EachIsUnharmed (terms c.name s.session.moment s.kinds) c.batch c.budget s.heard
    s.session.world (asks_of c.name s.asks)
