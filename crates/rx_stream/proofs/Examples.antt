-- Events and queues, worked out by the definitions alone.
use Rattle.std.proofs.Common.{◌≡◌, ℕ, zero, suc, true, false, List, [], ◌∷◌, Option, Some, None, refl}
use Rattle.rx_value.specs.declared.state.State.{State}
use Rattle.rx_document.specs.Documents.{Documents}
use Rattle.rx_document.specs.declared.place.Place.{Place}
use Rattle.rx_document.specs.declared.stored.Stored.{Stored}
use Rattle.rx_stream.specs.Events.{Queue, queue_with, next_event, queued, follow, new_queue, emptied, kept}
use Rattle.rx_stream.specs.declared.event.Event.{Event}

a : List ℕ
a = 97 ∷ []

b : List ℕ
b = 98 ∷ []

state : List ℕ → State
state key = record { key = key; fields = []; deleted = false }

document : List ℕ → ℕ → Stored
document key lwt =
    record { state = state key; rev = record { height = 1; token = 109 ∷ [] }; lwt = lwt }

place : List ℕ → ℕ → Place
place key lwt = record { lwt = lwt; id = key }

-- b was written first
both : Documents
both = (a, document a 2) ∷ (b, document b 1) ∷ []

-- an event of one state
event : Option Place → List ℕ → ℕ → Event
event from key lwt = record { from = from; states = state key ∷ []; place = place key lwt }

-- ---- events

-- the states of an event stand by rising place, and its place is that of the last one
from_the_start : next_event both None
    ≡ Some (record { from = None; states = state b ∷ state a ∷ []; place = place a 2 })
unfolding both document state place a b
from_the_start = refl

after_the_first : next_event both (Some (place b 1)) ≡ Some (event (Some (place b 1)) a 2)
unfolding both document state place event a b
after_the_first = refl

after_the_last : next_event both (Some (place a 2)) ≡ None
unfolding both document state place a b
after_the_last = refl

-- ---- a queue that follows

-- a new queue is empty, whatever was pulled
opened : new_queue (Some (place b 1)) both ≡ queue_with [] false (Some (place a 2))
unfolding both document state place a b
opened = refl

-- it hears of no document that was there
nothing_new : follow both (new_queue None both) ≡ new_queue None both
unfolding both document state place a b
nothing_new = refl

-- but of what comes then, from the end on
something_new : follow both (new_queue None ((b, document b 1) ∷ []))
    ≡ queue_with (event (Some (place b 1)) a 2 ∷ []) false (Some (place a 2))
unfolding both document state place event a b
something_new = refl

-- ---- 64 events

repeated : ℕ → Event → Queue → Queue
repeated zero e q = q
repeated (suc n) e q = repeated n e (queued e q)

copies : ℕ → Event → List Event
copies zero e = []
copies (suc n) e = e ∷ copies n e

empty : Queue
empty = queue_with [] false None

-- 64 are queued
full : repeated 64 (event None a 2) empty
    ≡ queue_with (copies 64 (event None a 2)) false (Some (place a 2))
unfolding repeated copies empty event state place a
full = refl

-- the next one drops them all, and isn't queued itself
overflows : repeated 65 (event None a 2) empty ≡ queue_with [] true (Some (place a 2))
unfolding repeated empty event state place a
overflows = refl

-- the one after it is queued, and the mark stays
goes_on : repeated 66 (event None a 2) empty
    ≡ queue_with (event None a 2 ∷ []) true (Some (place a 2))
unfolding repeated empty event state place a
goes_on = refl

-- ---- taken and kept

-- the mark goes when the events are taken, and those that are kept come behind later ones
kept_behind : kept (event None b 1 ∷ [])
    (queued (event None a 2) (emptied (repeated 65 (event None a 2) empty)))
    ≡ queue_with (event None a 2 ∷ event None b 1 ∷ []) false (Some (place a 2))
unfolding repeated empty event state place a b
kept_behind = refl
