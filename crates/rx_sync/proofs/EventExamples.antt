-- Deliveries, worked out by the definitions alone.
use Rattle.std.proofs.Common.{◌≡◌, ℕ, List, [], ◌∷◌, true, false, Some, None, Err, refl, pos}
use Rattle.rx_value.specs.declared.state.State.{State}
use Rattle.rx_value.specs.declared.value.Value.TheVariants.{Int}
use Rattle.rx_schema.specs.declared.shape.Shape.{Shape}
use Rattle.rx_document.specs.declared.place.Place.{Place}
use Rattle.rx_collection.specs.Held.{held_with}
use Rattle.rx_record.specs.Content.{Content, exchange, rows}
use Rattle.rx_record.specs.declared.record.MasterName.TheVariants.{Local}
use Rattle.rx_reply.specs.declared.given.Given.{Given}
use Rattle.rx_reply.specs.declared.given.Took.{Took}
use Rattle.rx_reply.specs.declared.given.Took.TheVariants as took
use Rattle.rx_script.specs.declared.delivery.Delivery.{Delivery}
use Rattle.rx_script.specs.declared.delivery.Delivery.TheVariants as link
use Rattle.rx_stream.specs.declared.event.Event.{Event}
use Rattle.rx_world.specs.Replicating.{new_replication}
use Rattle.rx_world.specs.World.{World}
use Rattle.rx_sync.specs.Delivery.{Delivered, delivered, is_level, is_resync}
use Rattle.rx_sync.specs.Events.{event_taken}
use Rattle.rx_sync.specs.Exchange.{world_after}
use Rattle.rx_sync.specs.declared.fault.EventFault.TheVariants.{Old, Pending, Gap}

-- the names of the master, the fork and the replication, and the keys of the two documents
abbrev master : List ℕ
master = 109 ∷ []

abbrev fork : List ℕ
fork = 102 ∷ []

abbrev name : List ℕ
name = 114 ∷ []

abbrev a : List ℕ
a = 97 ∷ []

abbrev b : List ℕ
b = 98 ∷ []

abbrev place : ℕ → List ℕ → Place
place lwt key = record { lwt = lwt; id = key }

abbrev with_number : List ℕ → ℕ → State
with_number key n =
    record { key = key; fields = (110 ∷ [], Int (pos n)) ∷ []; deleted = false }

-- the record of a commit of a new document
abbrev written : List ℕ → ℕ → List ℕ → ℕ → Content
written at lwt key n =
    rows at lwt (record { height = 1; state = with_number key n } ∷ [])

-- the master writes a, and then b
abbrev first : Event
first = record { from = None; states = with_number a 1 ∷ []; place = place 1 a }

abbrev second : Event
second =
    record { from = Some (place 1 a); states = with_number b 2 ∷ []; place = place 2 b }

-- the line of an event
abbrev given_as : ℕ → List ℕ → Took → Given
given_as i key why = record { event = i; rows = key ∷ []; took = why }

module _ (schema : Shape) where
  abbrev before : World
  before = world_after (written master 1 a 1 ∷ written master 2 b 2 ∷ []) (record {
    collections = (master, held_with master schema []) ∷ (fork, held_with fork schema []) ∷ [];
    replications = (name, new_replication name fork (Local master) (104 ∷ []) None) ∷ [];
    epoch = 1;
  })

  abbrev sent : List Delivery → World → Delivered
  sent ls w = delivered name 0 1 ls (first ∷ second ∷ []) w

  -- ---- nothing is lost

  abbrev both : Delivered
  both = sent [] before

  both_given : both.given ≡ given_as 1 a took.Taken ∷ given_as 2 b took.Taken ∷ []
  both_given = refl

  -- one record of each, which writes what it has, and knows it, up to its place
  both_records : both.records
      ≡ exchange name 1 (record { height = 1; state = with_number a 1 } ∷ [])
      (with_number a 1 ∷ []) None (Some (place 1 a))
      ∷ exchange name 2 (record { height = 1; state = with_number b 2 } ∷ [])
      (with_number b 2 ∷ []) None (Some (place 2 b)) ∷ []
  both_records = refl

  both_level : is_level (world_after both.records before) name ≡ true
  both_level = refl

  -- the first one is old by then
  old : event_taken (world_after both.records before) name first 0 ≡ Some (Err Old)
  old = refl

  -- ---- the first one is lost

  abbrev lost : Delivered
  lost = sent (link.Lose ∷ []) before

  gap : event_taken before name second 0 ≡ Some (Err Gap)
  gap = refl

  lost_given : lost.given ≡ given_as 1 a took.Lost ∷ given_as 2 b took.Gap ∷ []
  lost_given = refl

  lost_records : lost.records ≡ []
  lost_records = refl

  lost_resync : is_resync false lost.given ≡ true
  lost_resync = refl

  lost_level : is_level (world_after lost.records before) name ≡ false
  lost_level = refl

  -- ---- the first one is given twice

  abbrev twice : Delivered
  twice = sent (link.Twice ∷ []) before

  twice_given : twice.given
      ≡ given_as 1 a took.Taken ∷ given_as 1 a took.Old ∷ given_as 2 b took.Taken ∷ []
  twice_given = refl

  twice_level : is_level (world_after twice.records before) name ≡ true
  twice_level = refl

  -- ---- the first one is put off, and finds the second one not taken

  abbrev later : Delivered
  later = sent (link.Later ∷ []) before

  later_given : later.given ≡ given_as 1 a took.Later ∷ given_as 2 b took.Gap ∷ []
  later_given = refl

  later_kept : later.kept ≡ first ∷ []
  later_kept = refl

  -- ---- the fork has something to push

  abbrev waiting : World
  waiting = world_after (written fork 1 b 3 ∷ []) before

  pending : event_taken waiting name first 0 ≡ Some (Err (Pending 1))
  pending = refl

  waiting_records : (sent [] waiting).records ≡ []
  waiting_records = refl
