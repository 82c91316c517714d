-- What holds of every turn to a master that is elsewhere, whatever is heard of it.
use Rattle.std.specs.Prelude.{◌≡◌, ◌⊎◌, ℕ, ◌≤◌, List, [], Some, Ok}
use Rattle.rx_value.specs.Named.{named}
use Rattle.rx_schema.specs.declared.shape.Shape.{Shape}
use Rattle.rx_handler.specs.Handlers.{Kinds}
use Rattle.rx_handler.specs.declared.kind.HandlerKind.{HandlerKind}
use Rattle.rx_record.specs.Content.{Content}
use Rattle.rx_record.specs.declared.record.MasterName.TheVariants.{Port}
use Rattle.rx_world.specs.Made.{IsMadeWorld}
use Rattle.rx_world.specs.Sound.{IsSoundWorld}
use Rattle.rx_world.specs.World.{World}
use Rattle.rx_world.specs.declared.replication.Replication.{Replication}
use Rattle.rx_wire.specs.Spelling.{reply_of}
use Rattle.rx_wire.specs.declared.message.Reply.{Reply}
use Rattle.rx_sync.specs.AnyReply.{ChangesNothingElse, LosesNoUpdate, LowersNoCheckpoint, StaysForkSound, StaysValid}
use Rattle.rx_sync.specs.Asks.{Asks}
use Rattle.rx_sync.specs.Exchange.{Course, Terms, world_after}
use Rattle.rx_sync.specs.Laws.{ComeSoundly, RemembersLawful}
use Rattle.rx_sync.specs.Remote.{Heard, line, over_wire, remote_turn, schema_in}
use Rattle.rx_sync.specs.Turn.{EachBy}

-- the replication of that name is held, and its master is at a port
pub record HasMasterElsewhere (w : World) (name : List ℕ) : Type 0 where
  pub replication : Replication
  pub held : named w.replications name ≡ Some replication
  pub port : ℕ
  pub remote : replication.master ≡ Port port

-- A replication may make exchanges with a master elsewhere: the world is one that records made, and
-- sound; the replication is held, its master is at a port, and its handler is there.
pub record IsReadyElsewhere (w : World) (name : List ℕ) (kinds : Kinds) : Type 0 where
  pub made : IsMadeWorld w
  pub sound : IsSoundWorld w
  pub there : HasMasterElsewhere w name
  pub kind : HandlerKind
  pub handler : named kinds there.replication.handler ≡ Some kind

-- a turn may be made
pub record MayCall (t : Terms) (w : World) (a : Asks) : Type 0 where
  pub ready : IsReadyElsewhere w t.name t.kinds
  pub asks : RemembersLawful w t.name a

abbrev pub EveryCall : (Terms → ℕ → ℕ → List Heard → World → Asks → Type 0) → Type 0
EveryCall P =
    (t : Terms) (batch budget : ℕ) (heard : List Heard) (w : World) (a : Asks) → 1 ≤ batch
    → MayCall t w a → P t batch budget heard w a

-- its records may come one after another, and each leaves a sound world
abbrev pub IsCallSound : Terms → ℕ → ℕ → List Heard → World → Asks → Type 0
IsCallSound t batch budget heard w a =
    ComeSoundly w (remote_turn t batch budget heard w a).turned.records

-- afterwards another one may be made: the remembered requests stay lawful
abbrev pub MayCallAgain : Terms → ℕ → ℕ → List Heard → World → Asks → Type 0
MayCallAgain t batch budget heard w a =
    let u = (remote_turn t batch budget heard w a).turned in
    MayCall t (world_after u.records w) u.asks

-- ---- what no master can do

-- a line was heard, which reads as that reply by the schema of the fork
pub record IsHeardReply (w : World) (name : List ℕ) (heard : Heard) (reply : Reply) : Type 0 where
  pub bytes : List ℕ
  pub is_line : heard ≡ line bytes
  pub schema : Shape
  pub at : schema_in w name ≡ Some schema
  pub reads : reply_of schema bytes ≡ Ok reply

-- Records that the reply that was heard is taken with, whichever it is, and whoever sent it: what
-- the fork holds and knows stays valid, what is sound of it without its master stays so, no
-- checkpoint falls, a document that is to be pushed changes only by the handler's answer on its
-- conflict in this reply, and nothing else changes.
pub record IsTakenUnharmed (w : World) (kinds : Kinds) (name : List ℕ) (heard : Heard)
    (cs : List Content) : Type 0 where
  pub reply : Reply
  pub was_heard : IsHeardReply w name heard reply
  pub valid : StaysValid w kinds name reply cs
  pub sound : StaysForkSound w kinds name reply cs
  pub checkpoints : LowersNoCheckpoint w kinds name reply cs
  pub updates : LosesNoUpdate w kinds name reply cs
  pub others : ChangesNothingElse w kinds name reply cs

-- an exchange writes nothing, or takes the reply that was heard
abbrev pub IsUnharmed : Terms → World → Heard → Course → Type 0
IsUnharmed t w heard c = (c.records ≡ []) ⊎ IsTakenUnharmed w t.kinds t.name heard c.records

-- this holds of each exchange of a turn: of the world before it, of what was heard in it, and of
-- what it comes to
abbrev pub EachHeard : (World → Heard → Course → Type 0) → Terms → ℕ → ℕ → List Heard → World → Asks
    → Type 0
EachHeard P t batch budget heard w a =
    EachBy (λ w a h c. P w h c) (over_wire t) batch budget heard w a

abbrev pub EachIsUnharmed : Terms → ℕ → ℕ → List Heard → World → Asks → Type 0
EachIsUnharmed t batch budget heard w a = EachHeard (IsUnharmed t) t batch budget heard w a
