-- The emissions after a line: each result that differs from the rows emitted last.
use Rattle.std.specs.Prelude.{◌≡◌, List, [], map, Option, Some, None}
use Rattle.std.specs.List.{flat_map}
use Rattle.rx_value.specs.Named.{named}
use Rattle.rx_document.specs.Documents.{Documents}
use Rattle.rx_query.specs.QuerySpec.{QuerySpec}
use Rattle.rx_query.specs.Result.{fresh_rows}
use Rattle.rx_query.specs.declared.results.Row.{Row}
use Rattle.rx_collection.specs.Held.{Held}
use Rattle.rx_observe.specs.Rows.{unseen, with_emission}
use Rattle.rx_observe.specs.Watched.{with_emitted}
use Rattle.rx_observe.specs.declared.emission.Emission.{Emission}
use Rattle.rx_world.specs.World.{World}
use Rattle.rx_session.specs.Session.{Observed, Session, with_watched}

-- the documents of a collection, where there is one
abbrev pub documents_at : Option Held → Documents
documents_at None = []
documents_at (Some c) = c.documents

-- the rows of a query on a collection, from scratch
abbrev pub rows_on : QuerySpec → Option Held → List Row
rows_on q o = fresh_rows q (documents_at o)

-- the result of an observed query on the collection that it is observed in
abbrev pub result : World → Observed → List Row
result w o = rows_on o.watched.query (named w.collections o.coll)

-- a result is shown unless its rows are those emitted last
abbrev pub emission_due : World → Observed → List Emission
emission_due w o = with_emission o.name (unseen (Some (result w o)) o.watched.emitted) []

-- all emissions due, in the order of observing
abbrev pub emissions : Session → List Emission
emissions s = flat_map (emission_due s.world) s.queries

-- a query whose result was emitted
abbrev pub settled_query : World → Observed → Observed
settled_query w o = with_watched (with_emitted (result w o) o.watched) o

-- the session once the emissions are written
abbrev pub settled_session : Session → Session
settled_session s = record s { queries = map (settled_query s.world) s.queries }

-- it is as after its emissions, and none is due
pub record IsSettled (s : Session) : Type 0 where
  pub same : settled_session s ≡ s
  pub quiet : emissions s ≡ []
