-- What an action makes of the old result.
use Rattle.std.specs.Prelude.{◌≡◌, ◌<◌, Bool, true, Option, Some, None, IsSome, List, [], ◌∷◌, ◌++◌, drop, length}
use Rattle.std.specs.List.{list_any}
use Rattle.rx_query.specs.After.{removes_end, uses_existing, inserts}
use Rattle.rx_query.specs.Lists.{insert_in_order, without_last, without_first, replaced_first}
use Rattle.rx_table.specs.declared.action.Action.{Action}
use Rattle.rx_table.specs.declared.action.Action.TheVariants.{DoNothing, InsertFirst, InsertLast, RemoveFirstItem, RemoveLastItem, RemoveFirstInsertLast, RemoveLastInsertFirst, RemoveFirstInsertFirst, RemoveLastInsertLast, RemoveExisting, ReplaceExisting, InsertAtSortPosition, RemoveExistingAndInsertAtSortPosition, RunFullQueryAgain, InsertAtSortPositionRemoveLast}

module _ {X : Type 0} (before : X → X → Bool) (mine : X → Bool) (now : Option X) where
  -- the list with the change's row first, last, in its place by the order, or in place of the row
  -- with the key
  abbrev pub with_first : List X → List X
  with_first xs = elim now [ None ↦ xs | Some x ↦ x ∷ xs ]

  -- at the end
  abbrev pub with_last : List X → List X
  with_last xs = elim now [ None ↦ xs | Some x ↦ xs ++ x ∷ [] ]

  -- in its place by the order
  abbrev pub with_placed : List X → List X
  with_placed xs = elim now [ None ↦ xs | Some x ↦ insert_in_order before x xs ]

  -- in the place of the row that has the key
  abbrev pub with_replaced : List X → List X
  with_replaced xs = elim now [ None ↦ xs | Some x ↦ replaced_first mine x xs ]

  -- the list without the row that has the key
  abbrev pub without_existing : List X → List X
  without_existing xs = without_first mine xs

  -- the list after an action
  abbrev pub after : Action → List X → List X
  after DoNothing rows = rows
  after InsertFirst rows = with_first rows
  after InsertLast rows = with_last rows
  after RemoveFirstItem rows = drop 1 rows
  after RemoveLastItem rows = without_last rows
  after RemoveFirstInsertLast rows = with_last (drop 1 rows)
  after RemoveLastInsertFirst rows = with_first (without_last rows)
  after RemoveFirstInsertFirst rows = with_first (drop 1 rows)
  after RemoveLastInsertLast rows = with_last (without_last rows)
  after RemoveExisting rows = without_existing rows
  after ReplaceExisting rows = with_replaced rows
  after InsertAtSortPosition rows = with_placed rows
  after RemoveExistingAndInsertAtSortPosition rows = with_placed (without_existing rows)
  after RunFullQueryAgain rows = rows
  after InsertAtSortPositionRemoveLast rows = with_placed (without_last rows)

-- the action's rows are there
pub record AreThere {X : Type 0} (mine : X → Bool) (now : Option X) (action : Action)
    (rows : List X) : Type 0 where
  pub an_end : removes_end action ≡ true → 0 < length rows
  pub existing : uses_existing action ≡ true → list_any mine rows ≡ true
  pub to_insert : inserts action ≡ true → IsSome now
