-- What an action makes of a query's rows.
use Rattle.std.specs.Prelude.{◌≡◌, ◌<◌, Bool, true, false, List, [], ◌∷◌, ◌++◌, length, drop, Option, Some, None, IsSome, option_map}
use Rattle.std.specs.List.{list_any}
use Rattle.rx_document.specs.declared.change.Change.{Change}
use Rattle.rx_table.specs.declared.action.Action.{Action}
use Rattle.rx_table.specs.declared.action.Action.TheVariants.{
  DoNothing,
  InsertFirst,
  InsertLast,
  RemoveFirstItem,
  RemoveLastItem,
  RemoveFirstInsertLast,
  RemoveLastInsertFirst,
  RemoveFirstInsertFirst,
  RemoveLastInsertLast,
  RemoveExisting,
  ReplaceExisting,
  InsertAtSortPosition,
  RemoveExistingAndInsertAtSortPosition,
  RunFullQueryAgain,
  InsertAtSortPositionRemoveLast,
}
use Rattle.rx_query.specs.QuerySpec.{QuerySpec}
use Rattle.rx_query.specs.Lists.{insert_in_order, without_last, without_first, replaced_first}
use Rattle.rx_query.specs.States.{precedes, is_changed}
use Rattle.rx_query.specs.declared.results.Row.{Row}

-- the row of the document as it is after the change, if it is live
abbrev pub row_after : Change → Option Row
row_after c = option_map (λ fields. record { id = c.id; fields = fields }) c.after

-- with it, if it is live, where the function puts it
abbrev pub with_row : (Row → List Row → List Row) → Change → List Row → List Row
with_row put c rows = elim (row_after c) [ None ↦ rows | Some row ↦ put row rows ]

-- with it in front
abbrev pub with_first : Change → List Row → List Row
with_first = with_row (λ row rows. row ∷ rows)

-- with it at the end
abbrev pub with_last : Change → List Row → List Row
with_last = with_row (λ row rows. rows ++ row ∷ [])

-- with it before the first row that it precedes, or at the end
abbrev pub with_placed : QuerySpec → Change → List Row → List Row
with_placed q = with_row (insert_in_order (λ x y. precedes q x.fields y.fields))

-- with it in the place of the document's old row
abbrev pub with_replaced : Change → List Row → List Row
with_replaced c = with_row (replaced_first (is_changed c)) c

-- without the document's old row
abbrev pub without_changed : Change → List Row → List Row
without_changed c = without_first (is_changed c)

-- the rows after the action. To query again is no change of rows.
abbrev pub after : Action → QuerySpec → Change → List Row → List Row
after DoNothing q c rows = rows
after InsertFirst q c rows = with_first c rows
after InsertLast q c rows = with_last c rows
after RemoveFirstItem q c rows = drop 1 rows
after RemoveLastItem q c rows = without_last rows
after RemoveFirstInsertLast q c rows = with_last c (drop 1 rows)
after RemoveLastInsertFirst q c rows = with_first c (without_last rows)
after RemoveFirstInsertFirst q c rows = with_first c (drop 1 rows)
after RemoveLastInsertLast q c rows = with_last c (without_last rows)
after RemoveExisting q c rows = without_changed c rows
after ReplaceExisting q c rows = with_replaced c rows
after InsertAtSortPosition q c rows = with_placed q c rows
after RemoveExistingAndInsertAtSortPosition q c rows = with_placed q c (without_changed c rows)
after RunFullQueryAgain q c rows = rows
after InsertAtSortPositionRemoveLast q c rows = with_placed q c (without_last rows)

-- the action takes out the first or the last row
abbrev pub removes_end : Action → Bool
removes_end RemoveFirstItem = true
removes_end RemoveLastItem = true
removes_end RemoveFirstInsertLast = true
removes_end RemoveLastInsertFirst = true
removes_end RemoveFirstInsertFirst = true
removes_end RemoveLastInsertLast = true
removes_end InsertAtSortPositionRemoveLast = true
removes_end _ = false

-- it takes out or replaces the document's old row
abbrev pub uses_existing : Action → Bool
uses_existing RemoveExisting = true
uses_existing ReplaceExisting = true
uses_existing RemoveExistingAndInsertAtSortPosition = true
uses_existing _ = false

-- it puts in the document's new row
abbrev pub inserts : Action → Bool
inserts DoNothing = false
inserts RemoveFirstItem = false
inserts RemoveLastItem = false
inserts RemoveExisting = false
inserts RunFullQueryAgain = false
inserts _ = true

-- the rows that the action takes out or puts in are there
pub record AreThere (action : Action) (c : Change) (rows : List Row) : Type 0 where
  pub an_end : removes_end action ≡ true → 0 < length rows
  pub existing : uses_existing action ≡ true → list_any (is_changed c) rows ≡ true
  pub to_insert : inserts action ≡ true → IsSome c.after
