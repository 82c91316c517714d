-- An observed query, and what a change makes of it.
use Rattle.std.specs.Prelude.{◌≡◌, ◌≢◌, ℕ, List, [], Option, Some, None, option_map, if◌then◌else◌}
use Rattle.rx_document.specs.Change.{change_of, DifferAt}
use Rattle.rx_document.specs.Documents.{Documents}
use Rattle.rx_document.specs.declared.change.Before.TheVariants.{Unknown}
use Rattle.rx_document.specs.declared.change.Change.{Change}
use Rattle.rx_diagram.specs.Asked.{asked_count}
use Rattle.rx_table.specs.Rows.{table_of}
use Rattle.rx_table.specs.declared.action.Action.{Action}
use Rattle.rx_table.specs.declared.action.Action.TheVariants.{RunFullQueryAgain}
use Rattle.rx_query.specs.After.{after, AreThere}
use Rattle.rx_query.specs.QuerySpec.{QuerySpec}
use Rattle.rx_query.specs.States.{bits_of, OnlyMatchingInside}
use Rattle.rx_query.specs.declared.results.Row.{Row}
use Rattle.rx_query.specs.Result.{IsCollection}
use Rattle.rx_collection.specs.Held.{Held}
use Rattle.rx_table.specs.Counts.{counted, is_full, no_counts}
use Rattle.rx_query.specs.Result.{fresh_rows}
use Rattle.rx_table.specs.declared.counts.Counts.{Counts}

-- a query, its rows where they are kept, the rows that were emitted last, and its counts; a query
-- without rows is cold, one with rows is warm
pub record Watched : Type 0 where
  pub query : QuerySpec
  pub rows : Option (List Row)
  pub emitted : Option (List Row)
  pub counts : Counts

-- a cold query that nothing has happened to
abbrev pub cold : QuerySpec → Watched
cold q = record { query = q; rows = None; emitted = None; counts = no_counts }

-- the change as a cold query gets it
abbrev pub unknown : Change → Change
unknown c = record { id = c.id; before = Unknown; after = c.after }

-- the answers about a change; a cold query counts as one without any row that isn't told what was
-- before
abbrev pub bits_at : QuerySpec → Change → Option (List Row) → ℕ
bits_at q c None = bits_of q (unknown c) []
bits_at q c (Some rows) = bits_of q c rows

-- the table's action
abbrev pub action_at : QuerySpec → Change → Option (List Row) → Action
action_at q c rows = table_of (bits_at q c rows)

-- how many questions are asked for it
abbrev pub asked_at : QuerySpec → Change → Option (List Row) → ℕ
asked_at q c rows = asked_count (bits_at q c rows)

-- with it counted
abbrev pub counted_at : QuerySpec → Change → Option (List Row) → Counts → Counts
counted_at q c rows = counted (action_at q c rows) (asked_at q c rows)

-- the rows after the action; to run in full leaves none
abbrev pub rows_after : Action → QuerySpec → Change → Option (List Row) → Option (List Row)
rows_after a q c rows = if is_full a then None else option_map (after a q c) rows

-- after a change, before the query runs in full
abbrev pub applied : Change → Watched → Watched
applied c w = record {
  query = w.query;
  rows = rows_after (action_at w.query c w.rows) w.query c w.rows;
  emitted = w.emitted;
  counts = counted_at w.query c w.rows w.counts;
}

-- the rows are as the result's are: those that the action needs are there, and the document's is
-- there only where the document was live and matched
pub record IsReady (q : QuerySpec) (c : Change) (rows : List Row) : Type 0 where
  pub there : table_of (bits_of q c rows) ≢ RunFullQueryAgain
      → AreThere (table_of (bits_of q c rows)) c rows
  pub inside : OnlyMatchingInside q c rows

-- rows from scratch before a change are so after it, where they are kept
abbrev pub StaysFresh : QuerySpec → Change → Option (List Row) → Option (List Row) → Type 0
StaysFresh q c old_rows new_rows = (old new : Documents) → IsCollection q.primary old
    → IsCollection q.primary new → DifferAt c.id old new → c ≡ change_of c.id old new
    → old_rows ≡ Some (fresh_rows q old) → (rows : List Row) → new_rows ≡ Some rows
    → rows ≡ fresh_rows q new

-- an observed query after a change that led to these documents
abbrev pub stepped : Documents → Change → Watched → Watched
stepped new c w = record {
  query = w.query;
  rows = Some (fresh_rows w.query new);
  emitted = w.emitted;
  counts = counted_at w.query c w.rows w.counts;
}

-- with such rows emitted last
abbrev pub with_emitted : List Row → Watched → Watched
with_emitted rows w =
    record { query = w.query; rows = w.rows; emitted = Some rows; counts = w.counts }

-- the rows as they are kept, or else as they were emitted last
abbrev pub kept : Option (List Row) → Option (List Row) → Option (List Row)
kept None emitted = emitted
kept (Some rows) emitted = Some rows

-- the query goes by the primary key of the schema, and its limit isn't 0; its rows are those from
-- scratch, or those emitted last are, where it is cold
pub record IsRight (c : Held) (w : Watched) : Type 0 where
  pub limited : w.query.limit ≢ Some 0
  pub keyed : w.query.primary ≡ c.schema.primary
  pub from_scratch : kept w.rows w.emitted ≡ Some (fresh_rows w.query c.documents)
