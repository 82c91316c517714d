-- The result of a query.
use Rattle.std.specs.Prelude.{◌≡◌, ℕ, Bool, not, ◌&&◌, List, map, filter, take, drop, Option, Some, None}
use Rattle.std.specs.List.{IsDistinct, AllByRecursion}
use Rattle.std.specs.List.Sorted.{IsPermutation, IsStrictlySortedBy}
use Rattle.std.specs.Map.{values_of}
use Rattle.std.specs.Ordering.{is_lt}
use Rattle.std.specs.Str.{bytes_eq}
use Rattle.std.specs.declared.cmp.Ordering.{Ordering}
use Rattle.rx_value.specs.Named.{named, AreRising}
use Rattle.rx_value.specs.declared.value.Value.TheVariants.{Text}
use Rattle.rx_document.specs.Documents.{Documents}
use Rattle.rx_document.specs.declared.stored.Stored.{Stored}
use Rattle.rx_selector.specs.Holding.{all_hold}
use Rattle.rx_query.specs.QuerySpec.{QuerySpec}
use Rattle.rx_query.specs.Lists.{sorted}
use Rattle.rx_query.specs.Order.{query_cmp}
use Rattle.rx_query.specs.declared.results.Row.{Row}

-- the document is not deleted, and the selector holds
abbrev pub is_due : QuerySpec → Stored → Bool
is_due q d = not d.state.deleted && all_hold q.clauses d.state.fields

-- documents in the order of the query
abbrev pub stored_cmp : QuerySpec → Stored → Stored → Ordering
stored_cmp q x y = query_cmp q x.state.fields y.state.fields

-- at most so many rows
abbrev pub at_most : {X : Type 0} → Option ℕ → List X → List X
at_most None rows = rows
at_most (Some limit) rows = take limit rows

-- one document precedes another
abbrev pub stored_before : QuerySpec → Stored → Stored → Bool
stored_before q x y = is_lt (stored_cmp q x y)

-- The result of a query over documents: the live matching ones in order, without the first `skip`,
-- cut at `limit`.
abbrev pub result_of : QuerySpec → List Stored → List Stored
result_of q docs =
    at_most q.limit (drop q.skip (sorted (stored_before q) (filter (is_due q) docs)))

-- the row of a document
abbrev pub row_of : Stored → Row
row_of d = record { id = d.state.key; fields = d.state.fields }

-- the rows that a query gives from scratch over documents by their keys
unfoldable pub fresh_rows : QuerySpec → Documents → List Row
fresh_rows q documents = map row_of (result_of q (values_of documents))

-- ---- that this is a result, and the only one

-- such rows are the live matching documents, each once, each before those that it precedes, without
-- the first `skip`, cut at `limit`
pub record IsResult (q : QuerySpec) (docs rows : List Stored) : Type 0 where
  pub all : List Stored
  pub each_once : IsPermutation (filter (is_due q) docs) all
  pub in_order : IsStrictlySortedBy (stored_cmp q) all
  pub window : rows ≡ at_most q.limit (drop q.skip all)

-- documents with distinct keys, which they carry as their primary key
pub record AreKeyed (primary : List ℕ) (docs : List Stored) : Type 0 where
  pub distinct : IsDistinct bytes_eq (map (λ d. d.state.key) docs)
  pub carried : AllByRecursion (λ d. named d.state.fields primary ≡ Some (Text d.state.key)) docs

-- the result is one, and nothing else is
pub record IsTheResult (q : QuerySpec) (docs : List Stored) : Type 0 where
  pub is_result : IsResult q docs (result_of q docs)
  pub no_other : (others : List Stored) → IsResult q docs others → others ≡ result_of q docs

-- so it is for each query and all documents with distinct keys
abbrev pub ResultsAreDetermined : Type 0
ResultsAreDetermined = (q : QuerySpec) (docs : List Stored) → AreKeyed q.primary docs
    → IsTheResult q docs

-- ---- documents by their keys

-- documents by rising keys, which they carry themselves and as their primary key
pub record IsCollection (primary : List ℕ) (docs : Documents) : Type 0 where
  pub rising : AreRising docs
  pub keyed : AllByRecursion (λ e. e.1.state.key ≡ e.0) docs
  pub carried : AllByRecursion (λ e. named e.1.state.fields primary ≡ Some (Text e.1.state.key))
      docs

-- their keys are distinct
abbrev pub CollectionsAreKeyed : Type 0
CollectionsAreKeyed = (primary : List ℕ) (docs : Documents) → IsCollection primary docs
    → AreKeyed primary (values_of docs)
