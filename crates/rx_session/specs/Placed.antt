-- How a session is kept: each collection with its queries, and the places of all in order.
use Rattle.std.specs.Prelude.{◌≡◌, false, ℕ, List, [], map, filter, Option, Some, None, option_map}
use Rattle.std.specs.List.{AllByRecursion, IsDistinct, filter_map, find, list_any}
use Rattle.std.specs.Str.{bytes_eq}
use Rattle.rx_value.specs.Named.{named}
use Rattle.rx_observe.specs.Observing.{Observing, Queries}
use Rattle.rx_observe.specs.Rows.{emissions_due}
use Rattle.rx_observe.specs.Watched.{Watched}
use Rattle.rx_world.specs.Holders.{Holders, world_in}
use Rattle.rx_world.specs.World.{World}
use Rattle.rx_session.specs.Emissions.{emission_due}
use Rattle.rx_session.specs.Session.{Observed}
use Rattle.rx_session.specs.declared.query_place.QueryPlace.{QueryPlace}

-- collections with their queries, by name
abbrev pub Lives : Type 0
Lives = List (List ℕ × Observing)

-- the world of collections with queries
abbrev pub world_of : Holders Observing → World
world_of h = world_in (λ (l : Observing). l.collection) h

-- the place of the query of a name
abbrev pub place_named : List ℕ → List QueryPlace → Option QueryPlace
place_named name ps = find (λ p. bytes_eq name p.name) ps

-- the queries of a collection, if it is there
abbrev pub queries_at : Option Observing → Queries
queries_at None = []
queries_at (Some l) = l.queries

-- the query of a place with its state
abbrev pub observed_at : QueryPlace → Watched → Observed
observed_at p w = record { name = p.name; coll = p.coll; watched = w }

-- the query of a place, if it is there
abbrev pub query_at : Lives → QueryPlace → Option Observed
query_at ls p = option_map (observed_at p) (named (queries_at (named ls p.coll)) p.name)

-- the queries of all places
abbrev pub queries_of : Lives → List QueryPlace → List Observed
queries_of ls ps = filter_map (query_at ls) ps

-- the place of a query
abbrev pub place_of : Observed → QueryPlace
place_of o = record { name = o.name; coll = o.coll }

-- the queries among all that are observed in a collection
abbrev pub queries_in : List ℕ → List Observed → Queries
queries_in coll os = map (λ o. (o.name, o.watched)) (filter (λ o. bytes_eq coll o.coll) os)

-- the places are those of these queries, whose names differ, and each collection has those that are
-- observed in it, in order
pub record ArePlaced (ls : Lives) (ps : List QueryPlace) (os : List Observed) : Type 0 where
  pub places : map place_of os ≡ ps
  pub distinct : IsDistinct bytes_eq (map (λ o. o.name) os)
  pub listed : (coll : List ℕ) → queries_at (named ls coll) ≡ queries_in coll os

-- no rows of a collection's queries are to be emitted
abbrev pub IsQuiet : List ℕ × Observing → Type 0
IsQuiet l = emissions_due l.1.collection l.1.queries ≡ []

-- nothing is to be emitted of queries in any collection but these
abbrev pub AreQuietUnless : List (List ℕ) → World → List Observed → Type 0
AreQuietUnless written w os =
    AllByRecursion (λ o. list_any (bytes_eq o.coll) written ≡ false → emission_due w o ≡ []) os

-- no query is observed in a collection, and it isn't broken
pub record IsUnwatched (l : Observing) : Type 0 where
  pub none : l.queries ≡ []
  pub unbroken : l.broken ≡ false

-- in no collection
abbrev pub AreUnwatched : Lives → Type 0
AreUnwatched ls = AllByRecursion (λ l. IsUnwatched l.1) ls
