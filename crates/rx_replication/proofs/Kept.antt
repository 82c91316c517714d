-- What every step keeps.
use Rattle.std.proofs.Common.{◌≡◌, ℕ, ◌<◌, ◌≤◌, List, length, Option, Some}
use Rattle.rx_value.specs.Named.{named}
use Rattle.rx_document.specs.Documents.{Documents}
use Rattle.rx_document.specs.declared.place.Place.{Place}
use Rattle.rx_collection.specs.Time.{last_lwt}
use Rattle.rx_wire.specs.declared.message.AskKind.{AskKind}
use Rattle.rx_wire.specs.declared.message.AskKind.TheVariants.{Push, Pull}
use Rattle.rx_wire.specs.declared.message.Body.{Body}
use Rattle.rx_wire.specs.declared.message.Body.TheVariants.{Conflicts, Docs}
use Rattle.rx_wire.specs.declared.message.PushRow.{PushRow}
use Rattle.rx_wire.specs.declared.message.Request.{Request}
use Rattle.rx_replication.specs.Answered.{IsAnswered}
use Rattle.rx_replication.specs.Fitting.{IsFitting}
use Rattle.rx_replication.specs.Interleaving.{number_of, reply_number, NumbersDiffer}
use Rattle.rx_replication.specs.Known.{KnownStates, with_learnt}
use Rattle.rx_replication.specs.Member.{Member}
use Rattle.rx_replication.specs.Request.{IsCurrent}
use Rattle.rx_replication.specs.Sound.{IsSound}
use Rattle.rx_replication.specs.Steps.{System, OpenRequest, MadeReply}
use Rattle.rx_replication.specs.Taking.{real_state}
use Rattle.rx_replication.specs.Write.{state_at, AreByKey}
use Rattle.rx_replication.proofs.Handled.{RowsApart, Agree}

-- the rows of a push have keys of their own, and a pull is from down, of one document at least
abbrev pub IsFrom : Option Place → AskKind → Type 0
IsFrom down (Push rows) = RowsApart rows
IsFrom down (Pull place batch) = (place ≡ down) × (1 ≤ batch)

-- the open request was made, and is current unless the fork was written since
pub record IsAsked (fork : Documents) (known : KnownStates) (down : Option Place)
    (requests : List Request) (o : OpenRequest) : Type 0 where
  pub member : Member o.request requests
  pub before : o.lwt ≤ last_lwt fork
  pub current : o.lwt ≡ last_lwt fork → IsCurrent fork known down o.request.ask
  pub from : IsFrom down o.request.ask

-- the answer tells of the master as it was when it was made: each row's real state is the master's;
-- after a short page what is known is what the master had
abbrev pub Tells : KnownStates → AskKind → Body → Documents → Type 0
Tells known (Push rows) (Conflicts cs) master =
    (row : PushRow) → Member row rows
    → state_at master row.new.key ≡ Some (real_state cs row)
Tells known (Pull place batch) (Docs ss to) master =
    Agree ss × (length ss < batch → (k : List ℕ)
    → named (with_learnt known ss) k ≡ state_at master k)
Tells known (Push rows) (Docs ss to) master = Unit {0}
Tells known (Pull place batch) (Conflicts cs) master = Unit {0}

-- a reply to the open request
pub record IsGood (master : Documents) (known : KnownStates) (down : Option Place) (ask : AskKind)
    (r : MadeReply) : Type 0 where
  pub answered : IsAnswered master down ask r.reply.body
  pub tells : Tells known ask r.reply.body r.master.documents

-- a number that was given before the next one
pub record IsPast (number : ℕ × ℕ) (epoch n : ℕ) : Type 0 where
  pub epochs : number.0 ≤ epoch
  pub counts : number.0 ≡ epoch → number.1 ≤ n

pub record IsKept (w : System) : Type 0 where
  pub sound : IsSound w.fork.documents w.master.documents w.known w.up w.down
  pub fork_keys : AreByKey w.fork.documents
  pub master_keys : AreByKey w.master.documents
  pub differ : NumbersDiffer w.requests
  pub past : (q : Request) → Member q w.requests → IsPast (number_of q) w.epoch w.n
  pub linked : (r : MadeReply) → Member r w.replies
      → (q : Request) × Member q w.requests × (number_of q ≡ reply_number r.reply)
      × IsFitting q.ask r.reply.body
  pub asked : (o : OpenRequest) → w.waiting ≡ Some o
      → IsAsked w.fork.documents w.known w.down w.requests o
  pub good : (o : OpenRequest) → w.waiting ≡ Some o → (r : MadeReply) → Member r w.replies
      → reply_number r.reply ≡ number_of o.request
      → IsGood w.master.documents w.known w.down o.request.ask r
