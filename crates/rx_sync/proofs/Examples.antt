-- Turns, worked out by the definitions alone.
use Rattle.std.proofs.Common.{◌≡◌, ℕ, List, [], ◌∷◌, false, Some, None, refl, pos}
use Rattle.rx_value.specs.declared.state.State.{State}
use Rattle.rx_value.specs.declared.value.Value.TheVariants.{Int}
use Rattle.rx_schema.specs.declared.shape.Shape.{Shape}
use Rattle.rx_document.specs.declared.place.Place.{Place}
use Rattle.rx_collection.specs.Held.{held_with}
use Rattle.rx_handler.specs.declared.kind.HandlerKind.{HandlerKind}
use Rattle.rx_handler.specs.declared.kind.HandlerKind.TheVariants.{MasterWins, ForkWins}
use Rattle.rx_record.specs.Content.{Content, rows}
use Rattle.rx_record.specs.declared.record.MasterName.TheVariants.{Local}
use Rattle.rx_reply.specs.declared.turn.Exchanged.TheVariants.{Pushed, Pulled, PushLost, PullLost}
use Rattle.rx_reply.specs.declared.turn.Lost.TheVariants.{LoseReply, Stale}
use Rattle.rx_reply.specs.declared.turn.TurnEnd.TheVariants.{Quiet, Lost}
use Rattle.rx_script.specs.declared.happening.Happening.{Happening}
use Rattle.rx_script.specs.declared.happening.Happening.TheVariants as link
use Rattle.rx_world.specs.Replicating.{new_replication}
use Rattle.rx_world.specs.World.{World}
use Rattle.rx_sync.specs.Asks.{no_asks}
use Rattle.rx_sync.specs.Exchange.{Terms, world_after}
use Rattle.rx_sync.specs.Turn.{Turned, turn}

-- the names of the master, the fork and the replication, and the key of the one document
abbrev master : List ℕ
master = 109 ∷ []

abbrev fork : List ℕ
fork = 102 ∷ []

abbrev key : List ℕ
key = 97 ∷ []

abbrev place : ℕ → Place
place lwt = record { lwt = lwt; id = key }

abbrev with_number : ℕ → State
with_number n = record { key = key; fields = (110 ∷ [], Int (pos n)) ∷ []; deleted = false }

-- the record of a commit of the document
abbrev written : List ℕ → ℕ → ℕ → ℕ → Content
written name lwt height n =
    rows name lwt (record { height = height; state = with_number n } ∷ [])

module _ (schema : Shape) where
  -- both are empty, and nothing is known
  abbrev before : World
  before = record {
    collections = (master, held_with master schema []) ∷ (fork, held_with fork schema []) ∷ [];
    replications =
        (114 ∷ [], new_replication (114 ∷ []) fork (Local master) (104 ∷ []) None) ∷ [];
    epoch = 1;
  }

  abbrev terms : HandlerKind → Terms
  terms kind = record { name = 114 ∷ []; now = 0; kinds = (104 ∷ [], kind) ∷ [] }

  abbrev turned : HandlerKind → List Happening → World → Turned
  turned kind link w = turn (terms kind) 100 4 link w no_asks

  -- ---- a push whose reply is lost

  abbrev one_written : World
  one_written = world_after (written fork 1 1 1 ∷ []) before

  abbrev lost : Turned
  lost = turned MasterWins (link.LoseReply ∷ []) one_written

  lost_exchanges : lost.exchanges ≡ PushLost (key ∷ []) LoseReply ∷ []
  lost_exchanges = refl

  -- the master has written it
  lost_records : lost.records ≡ written master 1 1 1 ∷ []
  lost_records = refl

  lost_end : lost.ended ≡ Lost
  lost_end = refl

  -- the next turn makes it good: the pushed state is the master's by now
  abbrev made_good : Turned
  made_good = turned MasterWins [] (world_after lost.records one_written)

  made_good_exchanges : made_good.exchanges
      ≡ Pushed (key ∷ []) (key ∷ []) ∷ Pulled (key ∷ []) (Some (place 1)) ∷ []
  made_good_exchanges = refl

  made_good_end : made_good.ended ≡ Quiet
  made_good_end = refl

  -- no handler was called, and the fork wrote nothing
  untouched : (world_after made_good.records (world_after lost.records one_written)).collections
      ≡ (world_after lost.records one_written).collections
  untouched = refl

  -- a reply that comes in place of the right one is dropped, and a turn without loss goes on
  abbrev stale : Turned
  stale = turned MasterWins (link.Stale ∷ []) (world_after (written master 1 1 2 ∷ []) before)

  stale_exchanges : stale.exchanges ≡ PullLost Stale ∷ []
  stale_exchanges = refl

  stale_records : stale.records ≡ []
  stale_records = refl

  -- ---- an edit that goes back to an older value

  -- the fork pulls 1 and writes 2 and then 1 again, while the master writes 3
  abbrev master_written : World
  master_written = world_after (written master 1 1 1 ∷ []) before

  abbrev pulled : Turned
  pulled = turned MasterWins [] master_written

  pulled_exchanges : pulled.exchanges ≡ Pulled (key ∷ []) (Some (place 1)) ∷ []
  pulled_exchanges = refl

  abbrev went_back : World
  went_back =
      world_after (written fork 2 2 2 ∷ written master 2 2 3 ∷ written fork 3 3 1 ∷ [])
      (world_after pulled.records master_written)

  -- nothing is pending, as 1 is what the fork knows, so it pulls 3
  abbrev back : Turned
  back = turned MasterWins [] went_back

  back_exchanges : back.exchanges ≡ Pulled (key ∷ []) (Some (place 2)) ∷ []
  back_exchanges = refl

  back_end : back.ended ≡ Quiet
  back_end = refl

  -- ---- a conflict that the fork wins

  abbrev apart : World
  apart = world_after (written master 1 1 1 ∷ written fork 1 1 2 ∷ []) before

  abbrev won : Turned
  won = turned ForkWins [] apart

  won_exchanges : won.exchanges
      ≡ Pushed (key ∷ []) (key ∷ []) ∷ Pushed (key ∷ []) [] ∷ Pulled (key ∷ []) (Some (place 2)) ∷
      []
  won_exchanges = refl

  won_end : won.ended ≡ Quiet
  won_end = refl
