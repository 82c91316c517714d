-- What is done to the observed queries of one collection.
use Rattle.std.specs.Prelude.{⊤, ◌≡◌, ℕ, List, [], map, Option, Some, None}
use Rattle.rx_value.specs.Named.{named}
use Rattle.rx_query.specs.QuerySpec.{QuerySpec}
use Rattle.rx_observe.specs.Observing.{Observing, each, settled, with_queries, new_watch, and_query, without, cooled}
use Rattle.rx_observe.specs.Rows.{emissions_due}
use Rattle.rx_observe.specs.declared.emission.Emission.{Emission}

-- the emissions due of a collection's queries
abbrev pub due_of : Option Observing → List Emission
due_of None = []
due_of (Some l) = emissions_due l.collection l.queries

-- with all rows emitted
abbrev pub with_settled : Observing → Observing
with_settled l = with_queries l (each (settled l.collection) l.queries)

-- with a query more
abbrev pub with_query : List ℕ → QuerySpec → Observing → Observing
with_query name q l = with_queries l (and_query l.queries name (new_watch q l.collection.documents))

-- without the query of a name
abbrev pub without_query : List ℕ → Observing → Observing
without_query name l = with_queries l (without name l.queries)

-- the queries of another one, made cold
abbrev pub with_cooled : Observing → Observing
with_cooled l = with_queries l (each cooled l.queries)

-- no query has that name
abbrev pub IsFree : List ℕ → Option Observing → Type 0
IsFree name None = ⊤
IsFree name (Some l) = named l.queries name ≡ None

-- without any query
abbrev pub bare : Observing → Observing
bare l = with_queries l []

-- each collection with something done to its queries
abbrev pub each_live : (Observing → Observing) → List (List ℕ × Observing)
    → List (List ℕ × Observing)
each_live f ls = map (λ l. (l.0, f l.1)) ls
