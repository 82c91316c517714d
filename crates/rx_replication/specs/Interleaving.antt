-- What holds after every list of steps.
use Rattle.std.specs.Prelude.{◌≡◌, ◌≢◌, ◌⊎◌, ℕ, ◌<◌, true, false, List, [], ◌∷◌, length, Option, Some, None, slice_get}
use Rattle.rx_value.specs.Named.{named}
use Rattle.rx_value.specs.declared.state.State.{State}
use Rattle.rx_document.specs.declared.place.Place.{Place}
use Rattle.rx_document.specs.declared.stored.Stored.{Stored}
use Rattle.rx_collection.specs.Held.{Held}
use Rattle.rx_wire.specs.declared.message.AskKind.TheVariants.{Pull}
use Rattle.rx_wire.specs.declared.message.Body.TheVariants.{Docs}
use Rattle.rx_wire.specs.declared.message.Reply.{Reply}
use Rattle.rx_wire.specs.declared.message.Request.{Request}
use Rattle.rx_replication.specs.Answered.{IsAnswered}
use Rattle.rx_replication.specs.Known.{is_pending}
use Rattle.rx_replication.specs.Member.{Member}
use Rattle.rx_replication.specs.Sound.{IsSound}
use Rattle.rx_replication.specs.Steps.{System, Step, OpenRequest, MadeReply, system_after, run, start, AreLawfulSteps}
use Rattle.rx_replication.specs.Steps.Step.{Arrive, Migrate}
use Rattle.rx_replication.specs.Taking.{Resolve, KeepsKey}
use Rattle.rx_replication.specs.Updates.{KeepsPending}
use Rattle.rx_replication.specs.Write.{AreByKey, state_at}

-- for every handler, from every fork and master, after every list of steps
abbrev pub Always : (Resolve → System → Type 0) → Type 0
Always P =
    (resolve : Resolve) → KeepsKey resolve → (fork master : Held) → AreByKey fork.documents
    → AreByKey master.documents → (epoch : ℕ) (steps : List Step) → AreLawfulSteps steps
    → P resolve (run resolve steps (start fork master epoch))

-- ---- sound

abbrev pub IsSoundSystem : Resolve → System → Type 0
IsSoundSystem resolve w = IsSound w.fork.documents w.master.documents w.known w.up w.down

-- ---- numbers

abbrev pub number_of : Request → ℕ × ℕ
number_of q = (q.epoch, q.n)

abbrev pub reply_number : Reply → ℕ × ℕ
reply_number r = (r.epoch, r.n)

abbrev pub NumbersDiffer : List Request → Type 0
NumbersDiffer [] = Unit {0}
NumbersDiffer (q ∷ qs) =
    ((p : Request) → Member p qs → number_of p ≢ number_of q) × NumbersDiffer qs

-- no two requests ever made have one number
abbrev pub HasNumbersApart : Resolve → System → Type 0
HasNumbersApart resolve w = NumbersDiffer w.requests

-- ---- answered

-- each reply to the open request is answered
abbrev pub IsEachAnswered : Resolve → System → Type 0
IsEachAnswered resolve w =
    (o : OpenRequest) → w.waiting ≡ Some o → (r : MadeReply) → Member r w.replies
    → reply_number r.reply ≡ number_of o.request
    → IsAnswered w.master.documents w.down o.request.ask r.reply.body

-- ---- quiet

-- the reply to the open pull, with fewer states than its batch, is taken
pub record IsLastPull (resolve : Resolve) (w : System) (which now : ℕ) (r : MadeReply)
    : Type 0 where
  pub request : OpenRequest
  pub waits : w.waiting ≡ Some request
  pub place : Option Place
  pub batch : ℕ
  pub pull : request.request.ask ≡ Pull place batch
  pub comes : slice_get w.replies which ≡ Some r
  pub states : List State
  pub to : Option Place
  pub page : r.reply.body ≡ Docs states to
  pub few : length states < batch
  pub taken : (system_after resolve w (Arrive which now)).waiting ≡ None

-- then the fork's documents are those that the master had when the reply was made
abbrev pub IsQuietThen : Resolve → System → Type 0
IsQuietThen resolve w =
    (which now : ℕ) (r : MadeReply) → IsLastPull resolve w which now r → (key : List ℕ)
    → state_at (system_after resolve w (Arrive which now)).fork.documents key
    ≡ state_at r.master.documents key

-- ---- no lost update

-- a reply that arrives changes no pending document but by the handler's answer on its conflict of
-- that document
abbrev pub LosesNoUpdate : Resolve → System → Type 0
LosesNoUpdate resolve w =
    (which now : ℕ) (r : MadeReply) → slice_get w.replies which ≡ Some r
    → KeepsPending resolve w.known r.reply.body w.fork.documents
    (system_after resolve w (Arrive which now)).fork.documents

-- a reply arrives that was made when the master had that state of the key
pub record ArrivesFromOneWith (w : System) (s : Step) (key : List ℕ) (state : State)
    : Type 0 where
  pub which : ℕ
  pub now : ℕ
  pub arrives : s ≡ Arrive which now
  pub reply : MadeReply
  pub comes : slice_get w.replies which ≡ Some reply
  pub had : state_at reply.master.documents key ≡ Some state

-- a migration makes that state of the key and the known one equal
pub record MigratesToKnown (w : System) (s : Step) (key : List ℕ) (state : State) : Type 0 where
  pub change : State → State
  pub migrates : s ≡ Migrate change
  pub known : State
  pub was : named w.known key ≡ Some known
  pub equal : change known ≡ change state

-- where a pending document keeps its state and is no longer pending, the master had that state, or
-- a migration made it and the known one equal
abbrev pub IsPendingUntilHeld : Resolve → System → Type 0
IsPendingUntilHeld resolve w =
    (s : Step) (key : List ℕ) (d e : Stored) → named w.fork.documents key ≡ Some d
    → is_pending w.known d ≡ true → named (system_after resolve w s).fork.documents key ≡ Some e
    → e.state ≡ d.state → is_pending (system_after resolve w s).known e ≡ false
    → ArrivesFromOneWith w s key d.state ⊎ MigratesToKnown w s key d.state
