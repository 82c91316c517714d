-- What holds of what forks and masters plan, and of every turn.
use Rattle.std.specs.Prelude.{◌≡◌, ℕ, ◌≤◌, true, List, [], ◌∷◌, Option, Some, IfSome, Err}
use Rattle.std.specs.List.{IsDistinct}
use Rattle.std.specs.Str.{bytes_eq}
use Rattle.rx_value.specs.Named.{named}
use Rattle.rx_schema.specs.declared.shape.Shape.{Shape}
use Rattle.rx_document.specs.declared.place.Place.{Place}
use Rattle.rx_collection.specs.Held.{Held}
use Rattle.rx_collection.specs.Time.{last_lwt}
use Rattle.rx_wire.specs.declared.message.Body.{Body}
use Rattle.rx_wire.specs.declared.message.Body.TheVariants.{Conflicts, Docs}
use Rattle.rx_wire.specs.declared.message.Reply.{Reply}
use Rattle.rx_wire.specs.declared.message.Request.{Request}
use Rattle.rx_replication.specs.Answered.{IsAnswered}
use Rattle.rx_replication.specs.Request.{IsCurrent}
use Rattle.rx_replication.specs.Throughout.{BodyPasses}
use Rattle.rx_replication.specs.Updates.{KeepsPending}
use Rattle.rx_replication.specs.Write.{state_at}
use Rattle.rx_handler.specs.Handlers.{Kinds}
use Rattle.rx_handler.specs.declared.kind.HandlerKind.{HandlerKind}
use Rattle.rx_fork.specs.Valid.{is_valid}
use Rattle.rx_fork.specs.declared.ask.Asked.{Asked}
use Rattle.rx_record.specs.Content.{Content}
use Rattle.rx_record.specs.Writable.{IsOrdered, HasTime}
use Rattle.rx_record.specs.declared.record.MasterName.{MasterName}
use Rattle.rx_record.specs.declared.record.MasterName.TheVariants.{Local, Port}
use Rattle.rx_reply.specs.declared.turn.Exchanged.{Exchanged}
use Rattle.rx_reply.specs.declared.turn.TurnEnd.TheVariants.{Quiet}
use Rattle.rx_script.specs.declared.happening.Happening.{Happening}
use Rattle.rx_script.specs.declared.happening.Happening.TheVariants as link
use Rattle.rx_world.specs.Sound.{IsSoundWorld}
use Rattle.rx_world.specs.Step.{step, legal}
use Rattle.rx_world.specs.Touch.{IsNoMigration}
use Rattle.rx_world.specs.World.{World, Collections}
use Rattle.rx_world.specs.declared.replication.Replication.{Replication}
use Rattle.rx_sync.specs.Asking.{asked_in, pending_in}
use Rattle.rx_sync.specs.Asks.{Asks, AsksAreLawful, IsLawfulRequest}
use Rattle.rx_sync.specs.Exchange.{Terms, world_after, answer_states, exchange, has_pulled, state_keys}
use Rattle.rx_world.specs.Made.{IsMadeWorld}
use Rattle.rx_sync.specs.Handling.{Handled, handled_for}
use Rattle.rx_sync.specs.Taking.{resolve_for, taken}
use Rattle.rx_sync.specs.Turn.{turn}
use Rattle.rx_sync.specs.declared.fault.TakeFault.{TakeFault}
use Rattle.rx_sync.specs.declared.fault.TakeFault.TheVariants.{ClockEnd}

-- ---- records

-- the record may come next, is in order, and is no migration
pub record MayCome (w : World) (c : Content) : Type 0 where
  pub lawful : legal c w ≡ true
  pub ordered : IsOrdered c
  pub no_migration : IsNoMigration c

-- so may each of them, one after another
abbrev pub MayComeInTurn : World → List Content → Type 0
MayComeInTurn w [] = Unit {0}
MayComeInTurn w (c ∷ cs) = MayCome w c × MayComeInTurn (step c w) cs

-- and each leaves a sound world
abbrev pub ComeSoundly : World → List Content → Type 0
ComeSoundly w [] = Unit {0}
ComeSoundly w (c ∷ cs) = MayCome w c × IsSoundWorld (step c w) × ComeSoundly (step c w) cs

-- ---- a request and a reply

-- what holds of the replication of a name and of its fork
abbrev pub ForFork : World → List ℕ → (Replication → Held → Type 0) → Type 0
ForFork w name P =
    (r : Replication) → named w.replications name ≡ Some r → (fork : Held)
    → named w.collections r.fork ≡ Some fork → P r fork

-- the request is lawful, and while the fork isn't written it is the one that is due
pub record IsDueOf (r : Replication) (fork : Held) (asked : Asked) : Type 0 where
  pub lawful : IsLawfulRequest fork.schema asked.request
  pub current : last_lwt fork.documents ≡ asked.lwt
      → IsCurrent fork.documents r.side.known r.side.down asked.request.ask

abbrev pub IsDueIn : World → List ℕ → Asked → Type 0
IsDueIn w name asked = ForFork w name (λ r fork. IsDueOf r fork asked)

-- the place that documents lead to
abbrev pub HasTimeAt : Body → Type 0
HasTimeAt (Conflicts cs) = Unit {0}
HasTimeAt (Docs ss to) = IfSome to HasTime

-- the states of a reply are valid, no key comes twice among them, and its place has a write time
pub record IsLawfulReply (schema : Shape) (reply : Reply) : Type 0 where
  pub valid : BodyPasses (is_valid schema) reply.body
  pub apart : IsDistinct bytes_eq (state_keys (answer_states reply.body))
  pub timed : HasTimeAt reply.body

abbrev pub IsLawfulReplyIn : World → List ℕ → Reply → Type 0
IsLawfulReplyIn w name reply = ForFork w name (λ r fork. IsLawfulReply fork.schema reply)

-- the master has answered so, or is elsewhere
abbrev pub HasAnswered : Collections → MasterName → Option Place → Asked → Reply → Type 0
HasAnswered cs (Local name) down asked reply =
    (master : Held) → named cs name ≡ Some master
    → IsAnswered master.documents down asked.request.ask reply.body
HasAnswered cs (Port port) down asked reply = Unit {0}

abbrev pub IsAnsweredIn : World → List ℕ → Asked → Reply → Type 0
IsAnsweredIn w name asked reply =
    ForFork w name (λ r fork. HasAnswered w.collections r.master r.side.down asked reply)

-- the records change no document of the fork that is to be pushed, but by the handler's answer on a
-- conflict of that very document
abbrev pub KeepsPendingIn : World → Kinds → List ℕ → Reply → List Content → Type 0
KeepsPendingIn w kinds name reply cs =
    ForFork w name (λ r fork.
    (kind : HandlerKind) → named kinds r.handler ≡ Some kind
    → (then_fork : Held) → named (world_after cs w).collections r.fork ≡ Some then_fork
    → KeepsPending (resolve_for kind r) r.side.known reply.body fork.documents
    then_fork.documents)

-- ---- turns

-- the replication of that name is held, and its master is of this journal
pub record HasMasterHere (w : World) (name : List ℕ) : Type 0 where
  pub replication : Replication
  pub held : named w.replications name ≡ Some replication
  pub master : List ℕ
  pub local : replication.master ≡ Local master

-- A replication may make exchanges: the world is one that records made, and sound; the replication
-- is
-- held, its master is of this journal, and its handler is there.
pub record IsReady (w : World) (name : List ℕ) (kinds : Kinds) : Type 0 where
  pub made : IsMadeWorld w
  pub sound : IsSoundWorld w
  pub here : HasMasterHere w name
  pub kind : HandlerKind
  pub handler : named kinds here.replication.handler ≡ Some kind

-- its fork has asked so, and wasn't written since
abbrev pub IsAskedIn : World → List ℕ → Asked → Type 0
IsAskedIn w name asked =
    (n batch : ℕ) × (1 ≤ batch) × (asked_in w name n batch ≡ Some asked)

-- a request is lawful for its fork, and so for its master
abbrev pub IsLawfulIn : World → List ℕ → Request → Type 0
IsLawfulIn w name q = ForFork w name (λ r fork. IsLawfulRequest fork.schema q)

-- after the records of an exchange that has pulled nothing is to be pushed
abbrev pub PullLeavesNone : World → List ℕ → List Content → Option Exchanged → Type 0
PullLeavesNone w name cs came = has_pulled came ≡ true → pending_in (world_after cs w) name ≡ Some 0

-- the requests that are remembered of it are lawful
abbrev pub RemembersLawful : World → List ℕ → Asks → Type 0
RemembersLawful w name a = ForFork w name (λ r fork. AsksAreLawful fork.schema a)

-- a turn may be made
pub record MayTurn (t : Terms) (w : World) (a : Asks) : Type 0 where
  pub ready : IsReady w t.name t.kinds
  pub asks : RemembersLawful w t.name a

abbrev pub EveryTurn : (Terms → ℕ → ℕ → List Happening → World → Asks → Type 0) → Type 0
EveryTurn P =
    (t : Terms) (batch budget : ℕ) (link : List Happening) (w : World) (a : Asks) → 1 ≤ batch
    → MayTurn t w a → P t batch budget link w a

-- its records may come one after another, and each leaves a sound world
abbrev pub IsTurnSound : Terms → ℕ → ℕ → List Happening → World → Asks → Type 0
IsTurnSound t batch budget link w a = ComeSoundly w (turn t batch budget link w a).records

-- afterwards another one may be made: the remembered requests stay lawful
abbrev pub MayTurnAgain : Terms → ℕ → ℕ → List Happening → World → Asks → Type 0
MayTurnAgain t batch budget link w a =
    MayTurn t (world_after (turn t batch budget link w a).records w)
    (turn t batch budget link w a).asks

-- fork and master of a replication have the same state at each key
abbrev pub IsLevel : World → List ℕ → Type 0
IsLevel w name =
    ForFork w name (λ r fork.
    (at : List ℕ) → r.master ≡ Local at → (master : Held) → named w.collections at ≡ Some master
    → (key : List ℕ) → state_at fork.documents key ≡ state_at master.documents key)

-- quiet means equal
abbrev pub QuietIsLevel : Terms → ℕ → ℕ → List Happening → World → Asks → Type 0
QuietIsLevel t batch budget link w a =
    (turn t batch budget link w a).ended ≡ Quiet
    → IsLevel (world_after (turn t batch budget link w a).records w) t.name

-- a request that comes twice does what it does once
abbrev pub TwiceIsOnce : Type 0
TwiceIsOnce =
    (t : Terms) (w : World) → IsReady w t.name t.kinds → (asked : Asked)
    → IsAskedIn w t.name asked → exchange t asked link.Twice w ≡ exchange t asked link.Ok w

-- of the faults of a taking a reply of the master meets one alone: that no write time is left
abbrev pub RefusedByTheClockAlone : Type 0
RefusedByTheClockAlone =
    (t : Terms) (w : World) → IsReady w t.name t.kinds → (asked : Asked)
    → IsAskedIn w t.name asked → (h : Handled)
    → handled_for w t.name asked.request t.now ≡ Some h → (fault : TakeFault)
    → taken (world_after h.records w) t.kinds t.name asked h.reply t.now ≡ Some (Err fault)
    → fault ≡ ClockEnd
