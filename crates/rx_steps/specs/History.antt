-- What may happen in a journal beside a replication, and to it.
use Rattle.std.specs.Prelude.{◌≡◌, ℕ, ◌+◌, ◌≤◌, Bool, true, List, [], ◌∷◌, ◌++◌, Option, Some, unwrap_or}
use Rattle.rx_value.specs.Named.{named}
use Rattle.rx_value.specs.declared.state.State.{State}
use Rattle.rx_collection.specs.Held.{Held}
use Rattle.rx_handler.specs.Handlers.{Kinds}
use Rattle.rx_handler.specs.Resolve.{resolve}
use Rattle.rx_handler.specs.declared.kind.HandlerKind.{HandlerKind}
use Rattle.rx_record.specs.Content.{Content, replication}
use Rattle.rx_record.specs.declared.record.MasterName.TheVariants.{Local}
use Rattle.rx_replication.specs.Interleaving.{IsSoundSystem, HasNumbersApart, IsEachAnswered, IsQuietThen, LosesNoUpdate, IsPendingUntilHeld}
use Rattle.rx_replication.specs.Steps.{Step, System, run, start}
use Rattle.rx_replication.specs.Taking.{Resolve}
use Rattle.rx_replication.specs.Throughout.{DocumentsPass, KeepsPassing, StepsPass, SystemPasses}
use Rattle.rx_script.specs.declared.happening.Happening.{Happening}
use Rattle.rx_sync.specs.Asks.{Asks, most_number, no_asks}
use Rattle.rx_sync.specs.Exchange.{Terms, world_after}
use Rattle.rx_sync.specs.Turn.{Turned, turn}
use Rattle.rx_world.specs.Made.{IsMadeWorld}
use Rattle.rx_world.specs.Sound.{IsSoundWorld}
use Rattle.rx_world.specs.Step.{legal, step}
use Rattle.rx_world.specs.World.{World}
use Rattle.rx_steps.specs.Exchanging.{AreTurnSteps, BeginWith}
use Rattle.rx_steps.specs.Records.{MayComeBeside, asks_behind, record_steps}
use Rattle.rx_steps.specs.Shows.{LeadsTo}

-- ---- events

-- a turn of a replication: of which batch and budget, over which link, and when
pub record TurnEvent : Type 0 where
  pub batch : ℕ
  pub budget : ℕ
  pub over : List Happening
  pub now : ℕ

-- a record, or a turn
pub data Event : Type 0 where
  written : Content → Event
  turned : TurnEvent → Event

-- a world, and what is remembered of the requests of a replication
pub record Moment : Type 0 where
  pub world : World
  pub asks : Asks

-- what stays the same: the names of a replication, of its fork and of its master, and the handlers
-- that there are
pub record Lasting : Type 0 where
  pub name : List ℕ
  pub fork : List ℕ
  pub master : List ℕ
  pub kinds : Kinds

abbrev pub terms_of : Lasting → TurnEvent → Terms
terms_of l x = record { name = l.name; now = x.now; kinds = l.kinds }

abbrev pub turned_by : Lasting → TurnEvent → Moment → Turned
turned_by l x m = turn (terms_of l x) x.batch x.budget x.over m.world m.asks

-- the moment after an event
abbrev pub moment_after : Lasting → Event → Moment → Moment
moment_after l (written c) m =
    record { world = step c m.world; asks = asks_behind l.fork m.world c m.asks }
moment_after l (turned x) m = record {
  world = world_after (turned_by l x m).records m.world;
  asks = (turned_by l x m).asks;
}

-- a turn asks for one document at least, the world is sound, and its requests have numbers
pub record MayBeTurned (x : TurnEvent) (m : Moment) : Type 0 where
  pub some : 1 ≤ x.batch
  pub sound : IsSoundWorld m.world
  pub few : m.asks.n + x.budget ≤ most_number

-- it may happen
abbrev pub MayHappen : Lasting → Event → Moment → Type 0
MayHappen l (written c) m = MayComeBeside m.world l.name c
MayHappen l (turned x) m = MayBeTurned x m

-- its steps
abbrev pub AreEventSteps : Lasting → Event → Moment → List Step → Type 0
AreEventSteps l (written c) m steps = steps ≡ record_steps l.fork l.master m.world c
AreEventSteps l (turned x) m steps =
    AreTurnSteps (terms_of l x) x.batch x.budget x.over m.world m.asks steps

-- ---- one event after another

abbrev pub moment_behind : Lasting → List Event → Moment → Moment
moment_behind l [] m = m
moment_behind l (e ∷ es) m = moment_behind l es (moment_after l e m)

abbrev pub MayHappenInTurn : Lasting → List Event → Moment → Type 0
MayHappenInTurn l [] m = Unit {0}
MayHappenInTurn l (e ∷ es) m = MayHappen l e m × MayHappenInTurn l es (moment_after l e m)

abbrev pub AreHistorySteps : Lasting → List Event → Moment → List Step → Type 0
AreHistorySteps l [] m steps = steps ≡ []
AreHistorySteps l (e ∷ es) m steps =
    BeginWith (AreEventSteps l e m) (AreHistorySteps l es (moment_after l e m)) steps

-- ---- histories

-- a replication as it is made: of which world, fork and master, and with which handler
pub record Making : Type 0 where
  pub world : World
  pub name : List ℕ
  pub fork : List ℕ
  pub master : List ℕ
  pub handler : List ℕ
  pub field : Option (List ℕ)
  pub kinds : Kinds
  pub kind : HandlerKind
  pub fork_held : Held
  pub master_held : Held

abbrev pub record_of : Making → Content
record_of k = replication k.name k.fork (Local k.master) k.handler k.field

-- it may be made: the record is legal, the two collections are held, and the handler is there
pub record MayBeMade (k : Making) : Type 0 where
  pub made : IsMadeWorld k.world
  pub lawful : legal (record_of k) k.world ≡ true
  pub fork : named k.world.collections k.fork ≡ Some k.fork_held
  pub master : named k.world.collections k.master ≡ Some k.master_held
  pub handler : named k.kinds k.handler ≡ Some k.kind

-- what stays the same, what resolves its conflicts, and its beginning
abbrev pub lasting_of : Making → Lasting
lasting_of k = record { name = k.name; fork = k.fork; master = k.master; kinds = k.kinds }

abbrev pub resolve_of : Making → Resolve
resolve_of k = resolve k.kind (unwrap_or k.field [])

abbrev pub beginning : Making → Moment
beginning k = record { world = step (record_of k) k.world; asks = no_asks }

abbrev pub start_of : Making → System
start_of k = start k.fork_held k.master_held k.world.epoch

-- what holds over every interleaving holds of a system
pub record HoldsOf (by : Resolve) (s : System) : Type 0 where
  pub sound : IsSoundSystem by s
  pub numbers : HasNumbersApart by s
  pub answered : IsEachAnswered by s
  pub quiet : IsQuietThen by s
  pub no_lost_update : LosesNoUpdate by s
  pub pending_until_held : IsPendingUntilHeld by s

-- it holds behind each of these steps
abbrev pub HoldsThrough : Resolve → System → List Step → Type 0
HoldsThrough by s steps =
    (front rest : List Step) → front ++ rest ≡ steps → HoldsOf by (run by front s)

-- a test that the handler and each of these steps keep, and that each state of the beginning
-- passes, is passed by each state behind each step
abbrev pub PassesThrough : Making → List Step → Type 0
PassesThrough k steps =
    (test : State → Bool) → KeepsPassing test (resolve_of k)
    → DocumentsPass test k.fork_held.documents → DocumentsPass test k.master_held.documents
    → (front rest : List Step) → front ++ rest ≡ steps → StepsPass test front
    → SystemPasses test (run (resolve_of k) front (start_of k))

-- From the fork and the master of the beginning the steps of the events lead to the moment behind
-- them, and all that holds over every interleaving holds behind each step.
pub record IsOfSteps (k : Making) (events : List Event) (m : Moment) : Type 0 where
  pub leads : LeadsTo (resolve_of k) (start_of k) m.asks m.world k.name
  pub so : AreHistorySteps (lasting_of k) events (beginning k) leads.steps
  pub holds : HoldsThrough (resolve_of k) (start_of k) leads.steps
  pub throughout : PassesThrough k leads.steps

-- so is each history of each replication that may be made
abbrev pub HistoriesAreSteps : Type 0
HistoriesAreSteps =
    (k : Making) → MayBeMade k → (events : List Event)
    → MayHappenInTurn (lasting_of k) events (beginning k)
    → IsOfSteps k events (moment_behind (lasting_of k) events (beginning k))
