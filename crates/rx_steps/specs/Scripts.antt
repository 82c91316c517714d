-- The lines of a script as events of a history.
use Rattle.std.specs.Prelude.{◌≡◌, ℕ, ◌+◌, ◌≤◌, List, [], ◌∷◌, ◌++◌, map, if◌then◌else◌, Some}
use Rattle.std.specs.Str.{bytes_eq}
use Rattle.rx_value.specs.Named.{named, put_named}
use Rattle.rx_record.specs.Content.{Content, epoch}
use Rattle.rx_record.specs.declared.record.MasterName.TheVariants.{Local}
use Rattle.rx_session.specs.Doing.{MayDo}
use Rattle.rx_session.specs.Session.{queued_in}
use Rattle.rx_sync.specs.Asks.{Asks, asks_of, most_number}
use Rattle.rx_sync.specs.Delivery.{MayDeliver}
use Rattle.rx_sync.specs.Exchange.{Terms, world_after}
use Rattle.rx_sync.specs.Laws.{MayTurn}
use Rattle.rx_sync.specs.Remote.{Heard}
use Rattle.rx_sync.specs.RemoteLaws.{MayCall}
use Rattle.rx_sync.specs.Sweep.{EachSwept, Sweep, terms_in, turn_in}
use Rattle.rx_sync.specs.declared.sweeping.Step.{Step as SweepStep}
use Rattle.rx_world.specs.World.{World}
use Rattle.rx_world.specs.declared.replication.Replication.{Replication}
use Rattle.rx_engine.specs.Calling.{WantedCall}
use Rattle.rx_engine.specs.Kept.{IsInOrder}
use Rattle.rx_engine.specs.Lines.{Task, answered, turns, calls, sweeps, delivers, task}
use Rattle.rx_engine.specs.Meaning.{Meaning, meaning}
use Rattle.rx_engine.specs.Opening.{Host, opened}
use Rattle.rx_engine.specs.SoundSession.{HasSoundWorld, with_asks}
use Rattle.rx_engine.specs.Standing.{Standing}
use Rattle.rx_engine.specs.Streams.{WantedDelivery, delivered_by}
use Rattle.rx_engine.specs.Sweeping.{is_quiet, sweep_by}
use Rattle.rx_engine.specs.Turning.{WantedTurn, terms}
use Rattle.rx_steps.specs.History.{Event, IsOfSteps, Lasting, Making, MayBeMade, MayHappenInTurn, Moment, TurnEvent, beginning, lasting_of, moment_after, moment_behind, turned, written}

-- ---- the events of lines

-- the moment of a replication as things stand between two lines
abbrev pub moment_of : Lasting → Standing → Moment
moment_of l s = record { world = s.session.world; asks = asks_of l.name s.asks }

-- the turn that a line makes
abbrev pub turn_of : WantedTurn → Standing → TurnEvent
turn_of u s = record {
  batch = u.batch;
  budget = u.budget;
  over = u.link;
  now = s.session.moment;
}

-- those of a turn of the replication of that name: of this one it is one event, and of another each
-- of its records is
abbrev pub turn_events : Lasting → List ℕ → TurnEvent → List Content → List Event
turn_events l name x records =
    if bytes_eq name l.name then turned x ∷ [] else map written records

-- a turn of a sweep
abbrev pub turn_of_sweep : Sweep → TurnEvent
turn_of_sweep v = record { batch = v.batch; budget = v.budget; over = []; now = v.now }

-- those of the turns of a sweep, up to the first that isn't quiet
abbrev pub sweep_events : Lasting → Sweep → List SweepStep → World → List (List ℕ × Asks)
    → List Event
sweep_events l v [] w asks = []
sweep_events l v (x ∷ xs) w asks =
    let t = turn_in v x.name w asks in
    turn_events l x.name (turn_of_sweep v) t.records
    ++ (if is_quiet t.ended
    then sweep_events l v xs (world_after t.records w) (put_named asks x.name t.asks) else [])

-- those of what a line comes to: of all but turns each record is one
abbrev pub task_events : Lasting → Task → Meaning → Standing → List Event
task_events l (turns u) m s = turn_events l u.name (turn_of u s) m.records
task_events l (sweeps v) m s =
    sweep_events l (sweep_by v s) v.steps s.session.world s.asks
task_events l other m s = map written m.records

abbrev pub line_events : Lasting → ℕ → List ℕ → Standing → List Event
line_events l n line s = task_events l (task s.kinds line s.session) (meaning n line s) s

-- those of lines one after another, the first of that number
abbrev pub script_events : Lasting → ℕ → List (List ℕ) → Standing → List Event
script_events l n [] s = []
script_events l n (line ∷ lines) s =
    line_events l n line s ++ script_events l (n + 1) lines (meaning n line s).next

-- how things stand behind them
abbrev pub standing_behind : ℕ → List (List ℕ) → Standing → Standing
standing_behind n [] s = s
standing_behind n (line ∷ lines) s = standing_behind (n + 1) lines (meaning n line s).next

-- ---- which lines

-- a turn may be made, and where it is one of this replication, its requests have numbers
pub record MayBeTurnedIn (l : Lasting) (t : Terms) (batch budget : ℕ) (w : World)
    (asks : List (List ℕ × Asks)) : Type 0 where
  pub some : 1 ≤ batch
  pub may : MayTurn t w (asks_of t.name asks)
  pub few : t.name ≡ l.name → (asks_of l.name asks).n + budget ≤ most_number

-- so may each turn of a sweep, as far as it goes
abbrev pub MayBeSwept : Lasting → Sweep → List SweepStep → World → List (List ℕ × Asks) → Type 0
MayBeSwept l v xs w asks =
    EachSwept (λ name w asks. MayBeTurnedIn l (terms_in v name) v.batch v.budget w asks) v xs w asks

-- a turn to a master elsewhere may be made
pub record MayBeCalled (c : WantedCall) (s : Standing) : Type 0 where
  pub some : 1 ≤ c.batch
  pub may : MayCall (terms c.name s.session.moment s.kinds) s.session.world
      (asks_of c.name s.asks)

-- a delivery may be made, and to the fork of this replication it writes nothing
pub record MayBeDelivered (l : Lasting) (d : WantedDelivery) (s : Standing) : Type 0 where
  pub may : MayDeliver s.session.world d.name (queued_in d.name s.session)
  pub none : d.name ≡ l.name → (delivered_by d s.session).records ≡ []

-- What a line comes to may be played: what it does may be done in the session, its turns may be
-- made, and so may its delivery.
abbrev pub MayBePlayed : Lasting → Task → Standing → Type 0
MayBePlayed l (answered o) s = MayDo o.doing s.session
MayBePlayed l (turns u) s =
    MayBeTurnedIn l (terms u.name s.session.moment s.kinds) u.batch u.budget s.session.world s.asks
MayBePlayed l (calls c) s = MayBeCalled c s
MayBePlayed l (sweeps v) s = MayBeSwept l (sweep_by v s) v.steps s.session.world s.asks
MayBePlayed l (delivers d) s = MayBeDelivered l d s

abbrev pub MayBePlayedInTurn : Lasting → ℕ → List (List ℕ) → Standing → Type 0
MayBePlayedInTurn l n [] s = Unit {0}
MayBePlayedInTurn l n (line ∷ lines) s =
    MayBePlayed l (task s.kinds line s.session) s
    × MayBePlayedInTurn l (n + 1) lines (meaning n line s).next

-- ---- lines in a sound world

-- records made the world, it is sound, and what is remembered of requests is lawful
abbrev pub IsSoundStanding : Standing → Type 0
IsSoundStanding s = HasSoundWorld (with_asks s.session s.asks)

-- the requests of a turn have numbers, where it is one of this replication
abbrev pub HasNumbers : Lasting → List ℕ → ℕ → List (List ℕ × Asks) → Type 0
HasNumbers l name budget asks =
    name ≡ l.name → (asks_of l.name asks).n + budget ≤ most_number

-- so have those of each turn of a sweep, as far as it goes
abbrev pub EachHasNumbers : Lasting → Sweep → List SweepStep → World → List (List ℕ × Asks)
    → Type 0
EachHasNumbers l v xs w asks =
    EachSwept (λ name w asks. HasNumbers l name v.budget asks) v xs w asks

-- what the history of a replication asks of a line: the requests of its turns have numbers, and it
-- delivers nothing to the fork
abbrev pub FitsHistory : Lasting → Task → Standing → Type 0
FitsHistory l (turns u) s = HasNumbers l u.name u.budget s.asks
FitsHistory l (sweeps v) s = EachHasNumbers l (sweep_by v s) v.steps s.session.world s.asks
FitsHistory l (delivers d) s = d.name ≡ l.name → (delivered_by d s.session).records ≡ []
FitsHistory l other s = Unit {0}

-- a line is in order, as each is that a session plays, and fits the history
abbrev pub IsInOrderFor : Lasting → Task → Standing → Type 0
IsInOrderFor l t s = IsInOrder t s.session × FitsHistory l t s

-- it may be played in a sound world
abbrev pub SoundLinesMayBePlayed : Type 0
SoundLinesMayBePlayed =
    (l : Lasting) (line : List ℕ) (s : Standing) → IsSoundStanding s
    → IsInOrderFor l (task s.kinds line s.session) s
    → MayBePlayed l (task s.kinds line s.session) s

-- ---- what holds

-- the replication of that name is held with that fork and that master
pub record IsHeldIn (l : Lasting) (w : World) : Type 0 where
  pub replication : Replication
  pub held : named w.replications l.name ≡ Some replication
  pub fork : replication.fork ≡ l.fork
  pub master : replication.master ≡ Local l.master

-- the events of a line may happen, and lead to how things stand behind it
abbrev pub LinesAreEvents : Type 0
LinesAreEvents =
    (l : Lasting) (n : ℕ) (line : List ℕ) (s : Standing) → s.kinds ≡ l.kinds
    → IsHeldIn l s.session.world
    → MayBePlayed l (task s.kinds line s.session) s
    → MayHappenInTurn l (line_events l n line s) (moment_of l s)
    × (moment_behind l (line_events l n line s) (moment_of l s)
    ≡ moment_of l (meaning n line s).next)

-- the opening of a journal is the record of its next epoch, whatever was remembered
abbrev pub OpeningsAreEvents : Type 0
OpeningsAreEvents =
    (l : Lasting) (host : Host) (heard : List Heard) (m : Moment)
    → moment_of l (opened host heard m.world)
    ≡ moment_after l (written (epoch (m.world.epoch + 1))) m

-- So a script that goes on where a history of a replication ended is a history, and all that holds
-- over every interleaving holds behind each of its steps.
abbrev pub ScriptsAreHistories : Type 0
ScriptsAreHistories =
    (k : Making) → MayBeMade k → (before : List Event)
    → MayHappenInTurn (lasting_of k) before (beginning k) → (n : ℕ) (lines : List (List ℕ))
    (s : Standing) → s.kinds ≡ k.kinds
    → moment_behind (lasting_of k) before (beginning k) ≡ moment_of (lasting_of k) s
    → MayBePlayedInTurn (lasting_of k) n lines s
    → IsOfSteps k (before ++ script_events (lasting_of k) n lines s)
    (moment_of (lasting_of k) (standing_behind n lines s))

-- ---- scripts in a sound world

-- each line is in order for the replication, in how things stand before it
abbrev pub AreInOrder : Lasting → ℕ → List (List ℕ) → Standing → Type 0
AreInOrder l n [] s = Unit {0}
AreInOrder l n (line ∷ lines) s =
    IsInOrderFor l (task s.kinds line s.session) s
    × AreInOrder l (n + 1) lines (meaning n line s).next

-- a line that is in order leaves a sound world, whatever replication is looked at
abbrev pub LinesKeepSound : Type 0
LinesKeepSound =
    (n : ℕ) (line : List ℕ) (s : Standing) → IsSoundStanding s
    → IsInOrder (task s.kinds line s.session) s.session → IsSoundStanding (meaning n line s).next

-- so a script that begins in a sound world, and whose lines are in order, is a history
abbrev pub SoundScriptsAreHistories : Type 0
SoundScriptsAreHistories =
    (k : Making) → MayBeMade k → (before : List Event)
    → MayHappenInTurn (lasting_of k) before (beginning k) → (n : ℕ) (lines : List (List ℕ))
    (s : Standing) → s.kinds ≡ k.kinds
    → moment_behind (lasting_of k) before (beginning k) ≡ moment_of (lasting_of k) s
    → IsSoundStanding s → AreInOrder (lasting_of k) n lines s
    → IsOfSteps k (before ++ script_events (lasting_of k) n lines s)
    (moment_of (lasting_of k) (standing_behind n lines s))
