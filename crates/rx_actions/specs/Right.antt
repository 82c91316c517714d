-- That the table is right.
use Rattle.std.specs.Prelude.{◌≡◌, ◌≢◌, ℕ, List, Some}
use Rattle.rx_document.specs.Change.{change_of, DifferAt}
use Rattle.rx_document.specs.Documents.{Documents}
use Rattle.rx_document.specs.declared.change.Change.{Change}
use Rattle.rx_table.specs.Rows.{table_of}
use Rattle.rx_table.specs.declared.action.Action.{Action}
use Rattle.rx_table.specs.declared.action.Action.TheVariants.{RunFullQueryAgain}
use Rattle.rx_query.specs.After.{after, AreThere}
use Rattle.rx_query.specs.QuerySpec.{QuerySpec}
use Rattle.rx_query.specs.Result.{fresh_rows, IsCollection}
use Rattle.rx_query.specs.States.{bits_of, OnlyMatchingInside}
use Rattle.rx_query.specs.declared.results.Row.{Row}

-- the action can be done, and gives the rows that the query gives from scratch
pub record IsRight (action : Action) (q : QuerySpec) (c : Change) (new : Documents)
    (rows : List Row)
    : Type 0 where
  pub there : AreThere action c rows
  pub from_scratch : after action q c rows ≡ fresh_rows q new

-- So it is with the table's action, unless that is to query again, wherever two collections differ
-- at one key and the rows are those from scratch over the old one. A limit is never 0.
abbrev pub TableIsRight : Type 0
TableIsRight = (q : QuerySpec) (id : List ℕ) (old new : Documents) (rows : List Row)
    → q.limit ≢ Some 0 → IsCollection q.primary old → IsCollection q.primary new
    → DifferAt id old new → rows ≡ fresh_rows q old
    → table_of (bits_of q (change_of id old new) rows) ≢ RunFullQueryAgain
    → IsRight (table_of (bits_of q (change_of id old new) rows)) q (change_of id old new) new rows

-- Wherever the rows are those from scratch over the old collection, one of them is the changed
-- document's only where that was live and matched.
abbrev pub OnlyMatchingAreRows : Type 0
OnlyMatchingAreRows = (q : QuerySpec) (id : List ℕ) (old new : Documents) (rows : List Row)
    → q.limit ≢ Some 0 → IsCollection q.primary old → rows ≡ fresh_rows q old
    → OnlyMatchingInside q (change_of id old new) rows
