-- What holds of a taking whatever was answered: nothing is said of the master, which may be
-- elsewhere.
use Rattle.std.specs.Prelude.{◌≡◌, ◌≢◌, ℕ, true, List, Some, Ok}
use Rattle.rx_value.specs.Named.{named}
use Rattle.rx_collection.specs.Held.{Held}
use Rattle.rx_wire.specs.declared.message.Reply.{Reply}
use Rattle.rx_replication.specs.Sound.{IsForkSound}
use Rattle.rx_replication.specs.Throughout.{DocumentsPass, KnownPass}
use Rattle.rx_handler.specs.Handlers.{Kinds}
use Rattle.rx_fork.specs.Valid.{is_valid}
use Rattle.rx_fork.specs.declared.ask.Asked.{Asked}
use Rattle.rx_record.specs.Content.{Content}
use Rattle.rx_record.specs.declared.record.MasterName.TheVariants.{Port}
use Rattle.rx_world.specs.Made.{IsMadeWorld}
use Rattle.rx_world.specs.Replicating.{stays_or_rises}
use Rattle.rx_world.specs.Sound.{IsSoundWorld}
use Rattle.rx_world.specs.World.{World}
use Rattle.rx_world.specs.declared.replication.Replication.{Replication}
use Rattle.rx_sync.specs.Exchange.{world_after}
use Rattle.rx_sync.specs.Laws.{ComeSoundly, IsDueIn, IsLawfulReplyIn, KeepsPendingIn, MayComeInTurn}
use Rattle.rx_sync.specs.Taking.{taken}

-- a reply that is taken, to a request that the fork has made
abbrev pub EveryTaking : (World → Kinds → List ℕ → Reply → List Content → Type 0) → Type 0
EveryTaking P =
    (w : World) (kinds : Kinds) (name : List ℕ) (asked : Asked) (reply : Reply) (now : ℕ)
    → IsMadeWorld w → IsSoundWorld w → IsDueIn w name asked → IsLawfulReplyIn w name reply
    → (cs : List Content) → taken w kinds name asked reply now ≡ Some (Ok cs)
    → P w kinds name reply cs

-- ---- a replication and its fork, before records and after them

pub record Through (w : World) (cs : List Content) (name : List ℕ)
    (P : Replication → Held → Replication → Held → Type 0) : Type 0 where
  pub before : Replication
  pub held : named w.replications name ≡ Some before
  pub fork : Held
  pub fork_held : named w.collections before.fork ≡ Some fork
  pub next : Replication
  pub then_held : named (world_after cs w).replications name ≡ Some next
  pub same_fork : next.fork ≡ before.fork
  pub new : Held
  pub new_held : named (world_after cs w).collections next.fork ≡ Some new
  pub kept : P before fork next new

-- ---- what a taking keeps

-- its records may come
abbrev pub MayBeKept : World → Kinds → List ℕ → Reply → List Content → Type 0
MayBeKept w kinds name reply cs = MayComeInTurn w cs

-- no checkpoint falls
abbrev pub LowersNoCheckpoint : World → Kinds → List ℕ → Reply → List Content → Type 0
LowersNoCheckpoint w kinds name reply cs =
    Through w cs name (λ r fork next new. (stays_or_rises r.side.up next.side.up ≡ true)
    × (stays_or_rises r.side.down next.side.down ≡ true))

-- each document of the fork, and each state that it knows, is valid by the schema that it had
abbrev pub StaysValid : World → Kinds → List ℕ → Reply → List Content → Type 0
StaysValid w kinds name reply cs =
    Through w cs name (λ r fork next new. DocumentsPass (is_valid fork.schema) new.documents
    × KnownPass (is_valid fork.schema) next.side.known)

-- all that is sound of a replication without its master
abbrev pub StaysForkSound : World → Kinds → List ℕ → Reply → List Content → Type 0
StaysForkSound w kinds name reply cs =
    Through w cs name
    (λ r fork next new. IsForkSound new.documents next.side.known next.side.up)

-- a document that is to be pushed stays as it is, or becomes the handler's answer on its conflict
abbrev pub LosesNoUpdate : World → Kinds → List ℕ → Reply → List Content → Type 0
LosesNoUpdate w kinds name reply cs = KeepsPendingIn w kinds name reply cs

-- no other collection and no other replication changes
abbrev pub ChangesNothingElse : World → Kinds → List ℕ → Reply → List Content → Type 0
ChangesNothingElse w kinds name reply cs =
    Through w cs name (λ r fork next new.
    ((k : List ℕ) → k ≢ r.fork → named (world_after cs w).collections k ≡ named w.collections k)
    × ((k : List ℕ) → k ≢ name → named (world_after cs w).replications k ≡ named w.replications k))

-- the world is still one that records made
abbrev pub StaysMade : World → Kinds → List ℕ → Reply → List Content → Type 0
StaysMade w kinds name reply cs = IsMadeWorld (world_after cs w)

-- where the master is elsewhere, the world stays sound
abbrev pub StaysSoundAtPort : World → Kinds → List ℕ → Reply → List Content → Type 0
StaysSoundAtPort w kinds name reply cs =
    (r : Replication) → named w.replications name ≡ Some r → (port : ℕ) → r.master ≡ Port port
    → ComeSoundly w cs
