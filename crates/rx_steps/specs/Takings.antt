-- What a taking learns, and which replies are never taken.
use Rattle.std.specs.Prelude.{◌≡◌, ◌≢◌, ◌⊎◌, ℕ, List, Some, Ok, Err}
use Rattle.std.specs.Option.{ForSome}
use Rattle.rx_value.specs.Named.{named}
use Rattle.rx_collection.specs.Time.{last_lwt}
use Rattle.rx_wire.specs.declared.message.AskKind.{AskKind}
use Rattle.rx_wire.specs.declared.message.AskKind.TheVariants.{Push, Pull}
use Rattle.rx_wire.specs.declared.message.Body.{Body}
use Rattle.rx_wire.specs.declared.message.Reply.{Reply}
use Rattle.rx_replication.specs.Member.{Member}
use Rattle.rx_handler.specs.Handlers.{Kinds}
use Rattle.rx_fork.specs.declared.ask.Asked.{Asked}
use Rattle.rx_record.specs.Content.{Content}
use Rattle.rx_world.specs.Made.{IsMadeWorld}
use Rattle.rx_world.specs.Sound.{IsSoundWorld}
use Rattle.rx_world.specs.World.{World}
use Rattle.rx_sync.specs.AnyReply.{Through}
use Rattle.rx_sync.specs.Exchange.{answer_states, row_keys, state_keys}
use Rattle.rx_sync.specs.Laws.{ForFork, IsDueIn, IsLawfulReplyIn}
use Rattle.rx_sync.specs.Taking.{taken}
use Rattle.rx_sync.specs.declared.fault.TakeFault.{TakeFault}
use Rattle.rx_sync.specs.declared.fault.TakeFault.TheVariants.{Foreign, Moved}

-- ---- what is learnt

-- an answer tells of that key: it is that of a row that was pushed, or that of a state that a pull
-- gave
abbrev pub IsToldOf : AskKind → Body → List ℕ → Type 0
IsToldOf (Push rows) body key = Member key (row_keys rows)
IsToldOf (Pull place batch) body key = Member key (state_keys (answer_states body))

-- what is known of the master changes at no other key
abbrev pub LearnsOnlyTold : World → List ℕ → Asked → Reply → List Content → Type 0
LearnsOnlyTold w name asked reply cs =
    Through w cs name (λ r fork next new. (key : List ℕ)
    → named next.side.known key ≢ named r.side.known key
    → IsToldOf asked.request.ask reply.body key)

-- of each reply that is taken, to a request that the fork has made
abbrev pub EveryTakingLearns : Type 0
EveryTakingLearns =
    (w : World) (kinds : Kinds) (name : List ℕ) (asked : Asked) (reply : Reply) (now : ℕ)
    → IsMadeWorld w → IsSoundWorld w → IsDueIn w name asked → IsLawfulReplyIn w name reply
    → (cs : List Content) → taken w kinds name asked reply now ≡ Some (Ok cs)
    → LearnsOnlyTold w name asked reply cs

-- ---- what is never taken

-- a taking, where its replication, fork and handler are there, comes to that fault
abbrev pub IsRefusedFor : World → Kinds → List ℕ → Asked → Reply → ℕ → TakeFault → Type 0
IsRefusedFor w kinds name asked reply now fault =
    ForSome (taken w kinds name asked reply now) (λ due. due ≡ Err fault)

-- a reply of another epoch or of another number than the request
abbrev pub IsForeign : Asked → Reply → Type 0
IsForeign asked reply =
    (reply.epoch ≢ asked.request.epoch) ⊎ (reply.n ≢ asked.request.n)

-- is refused with its numbers, whatever it says and whatever the fork holds
abbrev pub ForeignIsRefused : Type 0
ForeignIsRefused =
    (w : World) (kinds : Kinds) (name : List ℕ) (asked : Asked) (reply : Reply) (now : ℕ)
    → IsForeign asked reply
    → IsRefusedFor w kinds name asked reply now (Foreign reply.epoch reply.n)

-- the reply of the request, to a fork that was written since the asking, is refused with the last
-- write times of then and now
abbrev pub MovedIsRefused : Type 0
MovedIsRefused =
    (w : World) (kinds : Kinds) (name : List ℕ) (asked : Asked) (reply : Reply) (now : ℕ)
    → reply.epoch ≡ asked.request.epoch → reply.n ≡ asked.request.n
    → ForFork w name (λ r fork. last_lwt fork.documents ≢ asked.lwt
    → IsRefusedFor w kinds name asked reply now (Moved asked.lwt (last_lwt fork.documents)))
