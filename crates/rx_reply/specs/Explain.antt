-- What is printed of the counts of an observed query.
use Rattle.std.specs.Prelude.{ℕ, List, [], ◌∷◌, codes, map, Option, Some, None, nat_lt, slice_index, if◌then◌else◌}
use Rattle.std.specs.Borrow.{Bor}
use Rattle.serde_json.specs.Data.{Data, string, object, Members, no_members, member}
use Rattle.rx_table.specs.declared.action.Action.{Action}
use Rattle.rx_table.specs.declared.action.Action.TheVariants.{
  DoNothing,
  InsertFirst,
  InsertLast,
  RemoveFirstItem,
  RemoveLastItem,
  RemoveFirstInsertLast,
  RemoveLastInsertFirst,
  RemoveFirstInsertFirst,
  RemoveLastInsertLast,
  RemoveExisting,
  ReplaceExisting,
  InsertAtSortPosition,
  RemoveExistingAndInsertAtSortPosition,
  RunFullQueryAgain,
  InsertAtSortPositionRemoveLast,
}
use Rattle.rx_table.specs.declared.counts.Counts.{Counts}
use Rattle.rx_table.specs.Counts.{action_number}
use Rattle.rx_reply.specs.Writing.{number_data, optional_member}

-- what each action is called, in the order of the names
unfoldable pub named_actions : List (List ℕ × Action)
named_actions =
    (codes "doNothing", DoNothing)
    ∷ (codes "insertAtSortPosition", InsertAtSortPosition)
    ∷ (codes "insertAtSortPositionRemoveLast", InsertAtSortPositionRemoveLast)
    ∷ (codes "insertFirst", InsertFirst)
    ∷ (codes "insertLast", InsertLast)
    ∷ (codes "removeExisting", RemoveExisting)
    ∷ (codes "removeExistingAndInsertAtSortPosition", RemoveExistingAndInsertAtSortPosition)
    ∷ (codes "removeFirstInsertFirst", RemoveFirstInsertFirst)
    ∷ (codes "removeFirstInsertLast", RemoveFirstInsertLast)
    ∷ (codes "removeFirstItem", RemoveFirstItem)
    ∷ (codes "removeLastInsertFirst", RemoveLastInsertFirst)
    ∷ (codes "removeLastInsertLast", RemoveLastInsertLast)
    ∷ (codes "removeLastItem", RemoveLastItem)
    ∷ (codes "replaceExisting", ReplaceExisting)
    ∷ (codes "runFullQueryAgain", RunFullQueryAgain)
    ∷ []

-- names and actions, where the names are lent
abbrev pub actions_by_name : List (Bor (List ℕ) × Action) → List (List ℕ × Action)
actions_by_name = map (λ a. (a.0.now, a.1))

-- how many changes were answered by that action
abbrev pub count_of : Counts → Action → ℕ
count_of counts action = slice_index counts.by_action (action_number action)

-- a count above 0
abbrev pub count_data : ℕ → Option Data
count_data n = if nat_lt 0 n then Some (number_data n) else None

-- the members of those actions whose count is above 0
abbrev pub counted_members : Counts → List (List ℕ × Action) → Members
counted_members counts [] = no_members
counted_members counts (a ∷ more) =
    optional_member a.0 (count_data (count_of counts a.1)) (counted_members counts more)

-- the object of those actions whose count is above 0
abbrev pub actions_data : Counts → Data
actions_data counts = object (counted_members counts named_actions)

-- the object that answers the line of that number
abbrev pub explain_data : ℕ → Counts → Data
explain_data line counts = object
    (member (codes "actions") (actions_data counts)
    (member (codes "asked") (number_data counts.asked)
    (member (codes "changes") (number_data counts.changes)
    (member (codes "full") (number_data counts.full)
    (member (codes "line") (number_data line)
    (member (codes "ok") (string (codes "explain")) no_members))))))
