-- What there is between two lines.
use Rattle.std.specs.Prelude.{ℕ, List, [], map, Bool, false, Option, option_map}
use Rattle.std.specs.List.{find, list_any}
use Rattle.std.specs.Option.{option_map_or}
use Rattle.std.specs.Str.{bytes_eq}
use Rattle.rx_value.specs.Named.{named}
use Rattle.rx_table.specs.declared.counts.Counts.{Counts}
use Rattle.rx_observe.specs.Watched.{Watched}
use Rattle.rx_stream.specs.declared.event.Event.{Event}
use Rattle.rx_stream.specs.declared.stream.Stream.{Stream}
use Rattle.rx_update.specs.Attached.{Hooking}
use Rattle.rx_world.specs.World.{World}

-- an observed query, its name, and the collection that it is observed in
pub record Observed : Type 0 where
  pub name : List ℕ
  pub coll : List ℕ
  pub watched : Watched

-- with another state
abbrev pub with_watched : Watched → Observed → Observed
with_watched w o = record { name = o.name; coll = o.coll; watched = w }

-- the world, the present moment, the hooks, the open streams, and the observed queries in the order
-- of observing
pub record Session : Type 0 where
  pub world : World
  pub moment : ℕ
  pub hooks : Hooking
  pub streams : List Stream
  pub queries : List Observed

-- a query of that name is observed
abbrev pub is_observed : List ℕ → Session → Bool
is_observed name s = list_any (λ o. bytes_eq name o.name) s.queries

-- the name of the first query in a collection of a group
abbrev pub first_observed : (List ℕ → Bool) → List Observed → Option (List ℕ)
first_observed in_group os = option_map (λ o. o.name) (find (λ o. in_group o.coll) os)

-- observed queries by their names
abbrev pub by_query : List Observed → List (List ℕ × Observed)
by_query os = map (λ o. (o.name, o)) os

-- the counts of the query of a name
abbrev pub counts_of : List ℕ → Session → Option Counts
counts_of name s = option_map (λ o. o.watched.counts) (named (by_query s.queries) name)

-- the stream of the replication of a name
abbrev pub stream_at : List ℕ → List Stream → Option Stream
stream_at name sts = find (λ st. bytes_eq name st.name) sts

-- what it has queued, and whether it has lost events
abbrev pub queued_at : List ℕ → List Stream → List Event
queued_at name sts = option_map_or (λ st. st.queue.events) (stream_at name sts) []

abbrev pub lost_at : List ℕ → List Stream → Bool
lost_at name sts = option_map_or (λ st. st.queue.mark) (stream_at name sts) false

-- the same in a session
abbrev pub stream_of : List ℕ → Session → Option Stream
stream_of name s = stream_at name s.streams

abbrev pub queued_in : List ℕ → Session → List Event
queued_in name s = queued_at name s.streams

abbrev pub has_lost : List ℕ → Session → Bool
has_lost name s = lost_at name s.streams
