-- What a line does to collections with observed queries.
use Rattle.std.specs.Prelude.{◌≡◌, false, ℕ, List, [], Option, Some, None}
use Rattle.rx_value.specs.Named.{named, change_named}
use Rattle.rx_query.specs.QuerySpec.{QuerySpec}
use Rattle.rx_collection.specs.Held.{Held}
use Rattle.rx_record.specs.declared.record.RowOut.{RowOut}
use Rattle.rx_observe.specs.Observing.{Observing, put_all}
use Rattle.rx_observe.specs.declared.emission.Emission.{Emission}
use Rattle.rx_world.specs.Holders.{After}
use Rattle.rx_world.specs.Step.{stored_rows}
use Rattle.rx_world.specs.Touch.{Touch, no_collection, new_collection, new_rows, remade}
use Rattle.rx_session.specs.Lives.{due_of, with_query, with_settled, without_query}
use Rattle.rx_session.specs.Placed.{Lives}
use Rattle.rx_session.specs.declared.query_place.QueryPlace.{QueryPlace}

-- the collection whose documents are written
abbrev pub coll_written : Touch → Option (List ℕ)
coll_written no_collection = None
coll_written (new_collection name schema) = None
coll_written (new_rows name lwt written) = Some name
coll_written (remade in_group schema steps) = None

-- with the rows of a record
abbrev pub with_written : ℕ → List RowOut → Observing → Observing
with_written lwt written l = put_all l (stored_rows l.collection.name lwt written)

-- a collection without observed queries
abbrev pub IsMadeFor : Held → Observing → Type 0
IsMadeFor c l = l ≡ record { collection = c; queries = []; broken = false }

-- A new collection has no queries, the collection of rows takes them and its queries follow, those
-- of a group are made anew without queries, and all others stay.
abbrev pub IsAfter : Touch → Lives → Lives → Type 0
IsAfter t old new = After (λ (l : Observing). l.collection) put_all IsMadeFor t old new

-- with a query more in a collection
abbrev pub watched_in : List ℕ → List ℕ → QuerySpec → Lives → Lives
watched_in name coll q ls = change_named ls coll (with_query name q)

-- with all rows emitted in the collection whose documents were written, if there is one
abbrev pub settled_in : Option (List ℕ) → Lives → Lives
settled_in None ls = ls
settled_in (Some coll) ls = change_named ls coll with_settled

-- the emissions that are due there
abbrev pub due_in : Option (List ℕ) → Lives → List Emission
due_in None ls = []
due_in (Some coll) ls = due_of (named ls coll)

-- without the query of a name in the collection of its place, if there is one
abbrev pub without_observed : List ℕ → Option QueryPlace → Lives → Lives
without_observed name None ls = ls
without_observed name (Some p) ls = change_named ls p.coll (without_query name)
