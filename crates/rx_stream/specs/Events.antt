-- What a master writes as events, and a queue of them.
use Rattle.std.specs.Prelude.{ℕ, zero, suc, Bool, true, false, nat_le, List, [], ◌∷◌, ◌++◌, map, length, Option, Some, None, option_map, if◌then◌else◌}
use Rattle.std.specs.List.{last_or}
use Rattle.std.specs.Option.{option_map_or}
use Rattle.rx_document.specs.Documents.{Documents}
use Rattle.rx_document.specs.declared.place.Place.{Place}
use Rattle.rx_document.specs.declared.stored.Stored.{Stored}
use Rattle.rx_collection.specs.Since.{place_of, since}
use Rattle.rx_replication.specs.Master.{last_place}
use Rattle.rx_stream.specs.declared.event.Event.{Event}

-- ---- events

-- the most states of an event
abbrev pub max_states : ℕ
max_states = 100

-- documents above a place as an event, whose place is that of the last one; none of no documents
abbrev pub event_with : Option Place → List Stored → Option Event
event_with from ds =
    option_map (λ d. record { from = from; states = map (λ d. d.state) ds; place = place_of d })
    (last_or None ds)

-- the next event from a place on: the first documents above it
abbrev pub next_event : Documents → Option Place → Option Event
next_event documents from = event_with from (since documents from max_states)

-- ---- queues

-- the events that aren't delivered yet, whether others were dropped since the last taking, and the
-- place up to which the master was followed
pub record Queue : Type 0 where
  pub events : List Event
  pub mark : Bool
  pub end : Option Place

-- of those events, that mark and that end
abbrev pub queue_with : List Event → Bool → Option Place → Queue
queue_with events mark end = record { events = events; mark = mark; end = end }

-- the most events of a queue
abbrev pub max_queued : ℕ
max_queued = 64

-- with an event more, which becomes the last one, or finds the queue full: then none is queued any
-- more, and the mark is set
abbrev pub queued : Event → Queue → Queue
queued e q =
    if nat_le max_queued (length q.events)
    then queue_with [] true (Some e.place)
    else queue_with (q.events ++ e ∷ []) q.mark (Some e.place)

-- with the next events, at most so many, each from the end of the one before
abbrev pub followed : ℕ → Documents → Queue → Queue
followed zero documents q = q
followed (suc n) documents q =
    option_map_or (λ e. followed n documents (queued e q)) (next_event documents q.end) q

-- with all of them
abbrev pub follow : Documents → Queue → Queue
follow documents q = followed (length documents) documents q

-- the place of the last document above that place, or the place itself where there is none
abbrev pub last_above : Option Place → Documents → Option Place
last_above place documents = last_place place (since documents place (length documents))

-- an empty queue from the last place on
abbrev pub new_queue : Option Place → Documents → Queue
new_queue down documents = queue_with [] false (last_above down documents)

-- without events and mark, as it is once these are taken
abbrev pub emptied : Queue → Queue
emptied q = queue_with [] false q.end

-- with events behind those that are queued
abbrev pub kept : List Event → Queue → Queue
kept events q = queue_with (q.events ++ events) q.mark q.end
