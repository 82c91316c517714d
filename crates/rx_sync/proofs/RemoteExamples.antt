-- Turns to a master that is elsewhere, worked out by the definitions alone.
use Rattle.std.proofs.Common.{◌≡◌, ℕ, List, [], ◌∷◌, Ok, None, refl}
use Rattle.rx_schema.specs.declared.shape.Shape.{Shape}
use Rattle.rx_collection.specs.Held.{held_with}
use Rattle.rx_handler.specs.declared.kind.HandlerKind.TheVariants.{MasterWins}
use Rattle.rx_record.specs.declared.record.MasterName.TheVariants.{Port}
use Rattle.rx_reply.specs.declared.turn.Exchanged.TheVariants.{Pulled, PullLost}
use Rattle.rx_reply.specs.declared.turn.Lost.TheVariants as lost
use Rattle.rx_reply.specs.declared.turn.TurnEnd.TheVariants.{Quiet, Lost}
use Rattle.rx_wire.specs.Spelling.{reply_of}
use Rattle.rx_wire.specs.declared.message.AskKind.TheVariants.{Pull}
use Rattle.rx_wire.specs.declared.message.Body.TheVariants.{Docs}
use Rattle.rx_wire.specs.declared.message.Reply.{Reply}
use Rattle.rx_wire.specs.declared.message.Request.{Request}
use Rattle.rx_world.specs.Replicating.{new_replication}
use Rattle.rx_world.specs.World.{World}
use Rattle.rx_sync.specs.Asks.{no_asks}
use Rattle.rx_sync.specs.Exchange.{Terms}
use Rattle.rx_sync.specs.Remote.{Heard, line, no_dial, RemoteTurned, remote_turn}

-- the names of the fork and the replication
abbrev fork : List ℕ
fork = 102 ∷ []

abbrev name : List ℕ
name = 114 ∷ []

-- a reply without documents
abbrev reply_with : ℕ → Reply
reply_with epoch = record { epoch = epoch; n = 1; body = Docs [] None }

module _ (schema : Shape) where
  -- the fork is empty, and nothing is known
  abbrev before : World
  before = record {
    collections = (fork, held_with fork schema []) ∷ [];
    replications = (name, new_replication name fork (Port 4001) (104 ∷ []) None) ∷ [];
    epoch = 1;
  }

  abbrev terms : Terms
  terms = record { name = name; now = 0; kinds = (104 ∷ [], MasterWins) ∷ [] }

  abbrev turned : List Heard → RemoteTurned
  turned heard = remote_turn terms 100 4 heard before no_asks

  -- the one request that is made
  abbrev request : Request
  request = record { epoch = 1; n = 1; ask = Pull None 100 }

  -- ---- nobody is at the port

  unreached : (turned (no_dial ∷ [])).turned.exchanges ≡ PullLost lost.Dial ∷ []
  unreached = refl

  unreached_end : (turned (no_dial ∷ [])).turned.ended ≡ Lost
  unreached_end = refl

  unreached_requests : (turned (no_dial ∷ [])).requests ≡ request ∷ []
  unreached_requests = refl

  -- ---- a line is read as a reply

  module _ (bytes : List ℕ) where
    -- the turn where it is read so, and something else is to be heard later
    abbrev heard_with : List Heard → RemoteTurned
    heard_with later = turned (line bytes ∷ later)

    -- the master has nothing
    module _ (reads : reply_of schema bytes ≡ Ok (reply_with 1)) where
      nothing_new : (heard_with []).turned.exchanges ≡ Pulled [] None ∷ []
      nothing_new = rw reads refl

      nothing_new_end : (heard_with []).turned.ended ≡ Quiet
      nothing_new_end = rw reads refl

      nothing_written : (heard_with []).turned.records ≡ []
      nothing_written = rw reads refl

      -- what comes later stays to be heard
      still_later : (later : List Heard) → (heard_with later).later ≡ later
      still_later later = rw reads refl

    -- it is the reply to a request of another epoch
    module _ (reads : reply_of schema bytes ≡ Ok (reply_with 2)) where
      foreign : (heard_with []).turned.exchanges ≡ PullLost lost.Foreign ∷ []
      foreign = rw reads refl

      foreign_end : (heard_with []).turned.ended ≡ Lost
      foreign_end = rw reads refl

      foreign_requests : (heard_with []).requests ≡ request ∷ []
      foreign_requests = rw reads refl
