-- Events that are given to a fork one after another, by what the link does to each.
use Rattle.std.specs.Prelude.{◌≡◌, ◌≢◌, ℕ, ◌+◌, ◌==◌, Bool, true, false, ◌&&◌, ◌||◌, List, [], ◌∷◌, ◌++◌, length, Option, Some, None, Result, Ok, Err}
use Rattle.std.specs.List.{AllByRecursion, list_any}
use Rattle.std.specs.Option.{option_map_or}
use Rattle.rx_collection.specs.Since.{since}
use Rattle.rx_replication.specs.Exchange.{Link}
use Rattle.rx_replication.specs.Known.{pending}
use Rattle.rx_record.specs.Content.{Content}
use Rattle.rx_reply.specs.declared.given.Given.{Given}
use Rattle.rx_reply.specs.declared.given.Took.{Took}
use Rattle.rx_reply.specs.declared.given.Took.TheVariants as took
use Rattle.rx_script.specs.declared.delivery.Delivery.{Delivery}
use Rattle.rx_script.specs.declared.delivery.Delivery.TheVariants as link
use Rattle.rx_stream.specs.declared.event.Event.{Event}
use Rattle.rx_world.specs.Made.{IsMadeWorld}
use Rattle.rx_world.specs.Sound.{IsSoundWorld}
use Rattle.rx_world.specs.World.{World}
use Rattle.rx_sync.specs.Asking.{pending_in}
use Rattle.rx_sync.specs.Bound.{link_in}
use Rattle.rx_sync.specs.Events.{IsGoodEventIn, event_taken}
use Rattle.rx_sync.specs.Exchange.{state_keys, world_after}
use Rattle.rx_sync.specs.Laws.{ComeSoundly, HasMasterHere, IsLevel}
use Rattle.rx_sync.specs.declared.fault.EventFault.{EventFault}
use Rattle.rx_sync.specs.declared.fault.EventFault.TheVariants.{Old, Pending, Gap}

-- ---- what a delivery comes to

-- what it writes, a line for each giving, and the events that are kept for the next one
pub record Delivered : Type 0 where
  pub records : List Content
  pub given : List Given
  pub kept : List Event

-- one before another
abbrev pub joined : Delivered → Delivered → Delivered
joined a b = record {
  records = a.records ++ b.records;
  given = a.given ++ b.given;
  kept = a.kept ++ b.kept;
}

abbrev pub nothing_delivered : Delivered
nothing_delivered = record { records = []; given = []; kept = [] }

-- ---- one event

-- the line of the event of that number
abbrev pub given_as : ℕ → Event → Took → Given
given_as i e why = record { event = i; rows = state_keys e.states; took = why }

-- why it isn't taken: of a fault that isn't named here, that no write time is left
abbrev pub took_by : EventFault → Took
took_by Old = took.Old
took_by (Pending due) = took.Pending
took_by Gap = took.Gap
took_by other = took.Clock

-- it is given, where the replication is held
abbrev pub once_given : ℕ → Event → Option (Result (List Content) EventFault) → Delivered
once_given i e None = nothing_delivered
once_given i e (Some (Ok cs)) =
    record { records = cs; given = given_as i e took.Taken ∷ []; kept = [] }
once_given i e (Some (Err fault)) =
    record { records = []; given = given_as i e (took_by fault) ∷ []; kept = [] }

abbrev pub given_once : List ℕ → ℕ → ℕ → Event → World → Delivered
given_once name now i e w = once_given i e (event_taken w name e now)

-- then it is given again, in the world after it
abbrev pub given_again : List ℕ → ℕ → ℕ → Event → World → Delivered → Delivered
given_again name now i e w first =
    joined first (given_once name now i e (world_after first.records w))

-- by what the link does to it
abbrev pub one_delivered : List ℕ → ℕ → ℕ → Delivery → Event → World → Delivered
one_delivered name now i link.Ok e w = given_once name now i e w
one_delivered name now i link.Lose e w =
    record { records = []; given = given_as i e took.Lost ∷ []; kept = [] }
one_delivered name now i link.Twice e w =
    given_again name now i e w (given_once name now i e w)
one_delivered name now i link.Later e w =
    record { records = []; given = given_as i e took.Later ∷ []; kept = e ∷ [] }

-- ---- one event after another

-- what the link does to the next event: nothing, where nothing is said
abbrev pub next_delivery : List Delivery → Delivery
next_delivery [] = link.Ok
next_delivery (x ∷ xs) = x

abbrev pub later_deliveries : List Delivery → List Delivery
later_deliveries [] = []
later_deliveries (x ∷ xs) = xs

-- each in the world after those before it, and the first of them has that number
abbrev pub delivered : List ℕ → ℕ → ℕ → List Delivery → List Event → World → Delivered
delivered name now i ls [] w = nothing_delivered
delivered name now i ls (e ∷ es) w =
    let d = one_delivered name now i (next_delivery ls) e w in
    joined d
    (delivered name now (i + 1) (later_deliveries ls) es (world_after d.records w))

-- ---- what the reply says

-- the fork has to ask its master before it can take another event
abbrev pub is_missed : Took → Bool
is_missed took.Pending = true
is_missed took.Gap = true
is_missed other = false

-- the mark stood, or an event was missed
abbrev pub is_resync : Bool → List Given → Bool
is_resync mark given = mark || list_any (λ g. is_missed g.took) given

-- the master has no document above down, and nothing of the fork is to be pushed
abbrev pub is_level_link : Link → Bool
is_level_link l =
    length (since l.master.documents l.down 1) == 0
    && length (pending l.fork.documents l.known) == 0

-- of the replication of a name, where it is held with a master of this journal
abbrev pub is_level : World → List ℕ → Bool
is_level w name = option_map_or is_level_link (link_in w name) false

-- ---- what holds of every delivery

-- the world is one that records made, and sound, the replication's master is of this journal, and
-- the events are good for it
pub record MayDeliver (w : World) (name : List ℕ) (es : List Event) : Type 0 where
  pub made : IsMadeWorld w
  pub sound : IsSoundWorld w
  pub here : HasMasterHere w name
  pub good : AllByRecursion (IsGoodEventIn w name) es

abbrev pub EveryDelivery : (List ℕ → World → Delivered → Type 0) → Type 0
EveryDelivery P =
    (name : List ℕ) (now i : ℕ) (ls : List Delivery) (es : List Event) (w : World)
    → MayDeliver w name es → P name w (delivered name now i ls es w)

-- its records may come one after another, and each leaves a sound world
abbrev pub IsDeliverySound : List ℕ → World → Delivered → Type 0
IsDeliverySound name w d = ComeSoundly w d.records

-- where something of the fork is to be pushed before it, it writes nothing
abbrev pub WaitsForPushes : List ℕ → World → Delivered → Type 0
WaitsForPushes name w d = pending_in w name ≢ Some 0 → d.records ≡ []

-- afterwards the events that are kept may be delivered
abbrev pub MayDeliverAgain : List ℕ → World → Delivered → Type 0
MayDeliverAgain name w d = MayDeliver (world_after d.records w) name d.kept

-- what is level has the same state at each key
abbrev pub LevelIsEqual : Type 0
LevelIsEqual =
    (w : World) (name : List ℕ) → IsMadeWorld w → IsSoundWorld w → is_level w name ≡ true
    → IsLevel w name
