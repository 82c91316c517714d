-- That an earlier reply, which comes in place of another, changes nothing.
use Rattle.std.specs.Prelude.{◌≡◌, ◌≢◌, ℕ, suc, ◌≤◌, List, ◌∷◌, Some, slice_get}
use Rattle.rx_handler.specs.Handlers.{Kinds}
use Rattle.rx_wire.specs.declared.message.Reply.{Reply}
use Rattle.rx_wire.specs.declared.message.Request.{Request}
use Rattle.rx_fork.specs.declared.ask.Asked.{Asked}
use Rattle.rx_replication.specs.Interleaving.{HasNumbersApart, number_of, reply_number}
use Rattle.rx_replication.specs.Member.{Member}
use Rattle.rx_replication.specs.Steps.{System, MadeReply, OpenRequest, run, system_after}
use Rattle.rx_replication.specs.Steps.Step.{Ask, Arrive}
use Rattle.rx_replication.specs.Taking.{Resolve}
use Rattle.rx_script.specs.declared.happening.Happening.TheVariants.{Stale}
use Rattle.rx_sync.specs.declared.fault.TakeFault.TheVariants.{Foreign}
use Rattle.rx_world.specs.World.{World}
use Rattle.rx_steps.specs.Exchanging.{answer_steps}
use Rattle.rx_steps.specs.Takings.{IsRefusedFor}

-- its numbers are others than those of the request that waits
abbrev pub IsStale : System → MadeReply → Type 0
IsStale s r =
    (awaited : OpenRequest) → s.waiting ≡ Some awaited
    → reply_number r.reply ≢ number_of awaited.request

-- ---- which replies are

-- where no two requests have one number, each reply to another request than the one that waits
abbrev pub OthersAreStale : Type 0
OthersAreStale =
    (by : Resolve) (s : System) → HasNumbersApart by s → (awaited : OpenRequest)
    → s.waiting ≡ Some awaited → Member awaited.request s.requests → (q : Request)
    → Member q s.requests → q ≢ awaited.request → (r : MadeReply)
    → reply_number r.reply ≡ number_of q → IsStale s r

-- each reply that is there when a request is made
abbrev pub EarlierAreStale : Resolve → System → Type 0
EarlierAreStale by s =
    (batch : ℕ) → 1 ≤ batch → (r : MadeReply) → Member r s.replies
    → IsStale (system_after by s (Ask batch)) r

-- ---- what becomes of them

-- one that arrives leaves the system as it is: the fork, what it knows and its checkpoints
abbrev pub StaleIsNoChange : Type 0
StaleIsNoChange =
    (by : Resolve) (s : System) (which now : ℕ) (r : MadeReply)
    → slice_get s.replies which ≡ Some r → IsStale s r
    → system_after by s (Arrive which now) ≡ s

-- and is refused by a fork that waits for a reply of other numbers
abbrev pub StaleIsRefused : Type 0
StaleIsRefused =
    (w : World) (kinds : Kinds) (name : List ℕ) (asked : Asked) (reply : Reply) (now : ℕ)
    → reply_number reply ≢ number_of asked.request
    → IsRefusedFor w kinds name asked reply now (Foreign reply.epoch reply.n)

-- An exchange to which an earlier reply comes is one whose reply is lost: whichever earlier reply
-- arrives behind its steps changes nothing.
abbrev pub StaleIsLost : Resolve → System → Type 0
StaleIsLost by s =
    (batch now which later : ℕ) → 1 ≤ batch
    → let behind = run by (Ask batch ∷ answer_steps now Stale) s in
    system_after by behind (Arrive (suc which) later) ≡ behind
