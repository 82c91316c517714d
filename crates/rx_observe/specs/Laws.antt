-- That observed rows are those of the query's one result, and what holds of them.
use Rattle.std.specs.Prelude.{◌≡◌, ◌≢◌, Some, map}
use Rattle.std.specs.Map.{values_of}
use Rattle.rx_document.specs.Change.{change_of, DifferAt}
use Rattle.rx_document.specs.Documents.{Documents}
use Rattle.rx_document.specs.declared.change.Change.{Change}
use Rattle.rx_query.specs.QuerySpec.{QuerySpec}
use Rattle.rx_query.specs.Result.{result_of, row_of, fresh_rows, IsTheResult, IsCollection}
use Rattle.rx_collection.specs.Held.{Held}
use Rattle.rx_collection.specs.Lawful.{IsLawful}
use Rattle.rx_observe.specs.Watched.{IsReady}

-- over a collection, what a query finds is its one result, and the rows from scratch are the rows
-- of that
pub record IsFromScratch (q : QuerySpec) (documents : Documents) : Type 0 where
  pub found : IsTheResult q (values_of documents)
  pub rows : fresh_rows q documents ≡ map row_of (result_of q (values_of documents))

-- wherever the query goes by the primary key of the schema
abbrev pub RowsAreFromScratch : Type 0
RowsAreFromScratch = (c : Held) (q : QuerySpec) → IsLawful c → q.primary ≡ c.schema.primary
    → IsFromScratch q c.documents

-- rows from scratch are ready for the change of one document
abbrev pub FreshRowsAreReady : Type 0
FreshRowsAreReady = (q : QuerySpec) (c : Change) (old new : Documents) → q.limit ≢ Some 0
    → IsCollection q.primary old → IsCollection q.primary new → DifferAt c.id old new
    → c ≡ change_of c.id old new → IsReady q c (fresh_rows q old)
