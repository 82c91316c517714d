-- That no state is invented: what holds of all states keeps holding.
use Rattle.std.specs.Prelude.{◌≡◌, ℕ, Bool, true, List, [], ◌∷◌, Some}
use Rattle.rx_value.specs.Named.{named}
use Rattle.rx_value.specs.declared.state.State.{State}
use Rattle.rx_document.specs.Documents.{Documents}
use Rattle.rx_document.specs.declared.stored.Stored.{Stored}
use Rattle.rx_collection.specs.Held.{Held}
use Rattle.rx_wire.specs.declared.message.AskKind.{AskKind}
use Rattle.rx_wire.specs.declared.message.AskKind.TheVariants.{Push, Pull}
use Rattle.rx_wire.specs.declared.message.Body.{Body}
use Rattle.rx_wire.specs.declared.message.Body.TheVariants.{Conflicts, Docs}
use Rattle.rx_wire.specs.declared.message.PushRow.{PushRow}
use Rattle.rx_wire.specs.declared.message.Request.{Request}
use Rattle.rx_replication.specs.Known.{KnownStates}
use Rattle.rx_replication.specs.Member.{Member}
use Rattle.rx_replication.specs.Steps.{System, MadeReply, Step, run, start, AreLawfulSteps}
use Rattle.rx_replication.specs.Steps.Step.{CommitFork, CommitMaster, Ask, Handle, Arrive, Restart, Migrate}
use Rattle.rx_replication.specs.Taking.{Resolve, KeepsKey}
use Rattle.rx_replication.specs.Write.{AreByKey}

-- each of the states passes
abbrev pub AllPass : (State → Bool) → List State → Type 0
AllPass test ss = (s : State) → Member s ss → test s ≡ true

-- and of the documents, of the known states, of what is asked and of what is answered
abbrev pub DocumentsPass : (State → Bool) → Documents → Type 0
DocumentsPass test documents =
    (key : List ℕ) (d : Stored) → named documents key ≡ Some d → test d.state ≡ true

abbrev pub KnownPass : (State → Bool) → KnownStates → Type 0
KnownPass test known = (key : List ℕ) (s : State) → named known key ≡ Some s → test s ≡ true

pub record RowPasses (test : State → Bool) (row : PushRow) : Type 0 where
  pub new : test row.new ≡ true
  pub assumed : (s : State) → row.assumed ≡ Some s → test s ≡ true

abbrev pub AskPasses : (State → Bool) → AskKind → Type 0
AskPasses test (Push rows) = (row : PushRow) → Member row rows → RowPasses test row
AskPasses test (Pull place batch) = Unit {0}

abbrev pub BodyPasses : (State → Bool) → Body → Type 0
BodyPasses test (Conflicts cs) = AllPass test cs
BodyPasses test (Docs ss to) = AllPass test ss

-- each state anywhere in the system passes
pub record SystemPasses (test : State → Bool) (w : System) : Type 0 where
  pub fork : DocumentsPass test w.fork.documents
  pub master : DocumentsPass test w.master.documents
  pub known : KnownPass test w.known
  pub requests : (q : Request) → Member q w.requests → AskPasses test q.ask
  pub replies : (r : MadeReply) → Member r w.replies → BodyPasses test r.reply.body

-- each state that is committed passes, and a change of one that passes does so too
abbrev pub StepPasses : (State → Bool) → Step → Type 0
StepPasses test (CommitFork states now) = AllPass test states
StepPasses test (CommitMaster states now) = AllPass test states
StepPasses test (Ask batch) = Unit {0}
StepPasses test (Handle which now) = Unit {0}
StepPasses test (Arrive which now) = Unit {0}
StepPasses test Restart = Unit {0}
StepPasses test (Migrate change) = (s : State) → test s ≡ true → test (change s) ≡ true

abbrev pub StepsPass : (State → Bool) → List Step → Type 0
StepsPass test [] = Unit {0}
StepsPass test (s ∷ ss) = StepPasses test s × StepsPass test ss

-- the handler's answer on two states of one key that pass does so too
abbrev pub KeepsPassing : (State → Bool) → Resolve → Type 0
KeepsPassing test resolve =
    (real new : State) → real.key ≡ new.key → test real ≡ true → test new ≡ true
    → test (resolve real new) ≡ true

-- for every test that the handler and each migration keep, such as validity: where the states in
-- the beginning and all that are committed pass, all pass always
abbrev pub HoldsThroughout : Type 0
HoldsThroughout =
    (test : State → Bool) (resolve : Resolve) → KeepsKey resolve → KeepsPassing test resolve
    → (fork master : Held) → AreByKey fork.documents → AreByKey master.documents
    → DocumentsPass test fork.documents → DocumentsPass test master.documents
    → (epoch : ℕ) (steps : List Step) → AreLawfulSteps steps → StepsPass test steps
    → SystemPasses test (run resolve steps (start fork master epoch))
