-- A collection and its observed queries.
use Rattle.std.specs.Prelude.{◌≡◌, ℕ, Bool, not, List, [], ◌∷◌, ◌++◌, map, filter, Some, None}
use Rattle.std.specs.List.{AllByRecursion, IsDistinct}
use Rattle.std.specs.Str.{bytes_eq}
use Rattle.rx_document.specs.Change.{change_of}
use Rattle.rx_document.specs.Documents.{Documents}
use Rattle.rx_document.specs.declared.change.Change.{Change}
use Rattle.rx_document.specs.declared.stored.Stored.{Stored}
use Rattle.rx_query.specs.QuerySpec.{QuerySpec}
use Rattle.rx_collection.specs.Commit.{with_row, with_rows}
use Rattle.rx_collection.specs.Held.{Held}
use Rattle.rx_table.specs.Counts.{no_counts}
use Rattle.rx_query.specs.Result.{fresh_rows}
use Rattle.rx_observe.specs.Watched.{Watched, stepped, with_emitted, IsRight}

-- observed queries with their names, in the order of observing
abbrev pub Queries : Type 0
Queries = List (List ℕ × Watched)

-- a collection, its observed queries, and whether memory ran out in the midst of a commit
pub record Observing : Type 0 where
  pub collection : Held
  pub queries : Queries
  pub broken : Bool

-- each query is right for the collection
abbrev pub AllRight : Held → Queries → Type 0
AllRight c qs = AllByRecursion (λ q. IsRight c q.1) qs

-- no name stands twice
abbrev pub HaveDistinctNames : Queries → Type 0
HaveDistinctNames qs = IsDistinct bytes_eq (map (λ q. q.0) qs)

-- each query is cold
abbrev pub AllCold : Queries → Type 0
AllCold qs = AllByRecursion (λ q. q.1.rows ≡ None) qs

-- each query with something done to it
abbrev pub each : (Watched → Watched) → Queries → Queries
each f qs = map (λ q. (q.0, f q.1)) qs

-- the change that a row makes
abbrev pub change_by : Held → Stored → Change
change_by c row = change_of row.state.key c.documents (with_row c row).documents

-- the queries after a row
abbrev pub queries_after : Held → Stored → Queries → Queries
queries_after c row = each (stepped (with_row c row).documents (change_by c row))

-- an observed query after rows that its collection takes one after another
abbrev pub watch_after : Held → List Stored → Watched → Watched
watch_after c [] w = w
watch_after c (row ∷ rows) w =
    watch_after (with_row c row) rows (stepped (with_row c row).documents (change_by c row) w)

-- the collection with rows, and each query after them
abbrev pub put_all : Observing → List Stored → Observing
put_all o rows = record {
  collection = with_rows o.collection rows;
  queries = each (watch_after o.collection rows) o.queries;
  broken = o.broken;
}

-- with other queries
abbrev pub with_queries : Observing → Queries → Observing
with_queries o qs = record { collection = o.collection; queries = qs; broken = o.broken }

-- a query that has run once and of which nothing was emitted
abbrev pub new_watch : QuerySpec → Documents → Watched
new_watch q documents = record {
  query = q;
  rows = Some (fresh_rows q documents);
  emitted = None;
  counts = no_counts;
}

-- one query more, after the others
abbrev pub and_query : Queries → List ℕ → Watched → Queries
and_query qs name w = qs ++ (name, w) ∷ []

-- the queries but those of that name
abbrev pub without : List ℕ → Queries → Queries
without name qs = filter (λ q. not (bytes_eq name q.0)) qs

-- the rows from scratch are those emitted last
abbrev pub settled : Held → Watched → Watched
settled c w = with_emitted (fresh_rows w.query c.documents) w

-- an observed query without the rows that it kept
abbrev pub cooled : Watched → Watched
cooled w = record { query = w.query; rows = None; emitted = w.emitted; counts = w.counts }
