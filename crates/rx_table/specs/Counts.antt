-- Counts of what changes did to a query.
use Rattle.std.specs.Prelude.{ℕ, Bool, true, false, ◌+◌, ◌-◌, ◌^◌, min, slice_index, slice_set, if◌then◌else◌, replicate}
use Rattle.rx_table.specs.declared.action.Action.{Action}
use Rattle.rx_table.specs.declared.action.Action.TheVariants.{
  DoNothing,
  InsertFirst,
  InsertLast,
  RemoveFirstItem,
  RemoveLastItem,
  RemoveFirstInsertLast,
  RemoveLastInsertFirst,
  RemoveFirstInsertFirst,
  RemoveLastInsertLast,
  RemoveExisting,
  ReplaceExisting,
  InsertAtSortPosition,
  RemoveExistingAndInsertAtSortPosition,
  RunFullQueryAgain,
  InsertAtSortPositionRemoveLast,
}
use Rattle.rx_table.specs.declared.counts.Counts.{Counts}

-- the place of an action's count
abbrev pub action_number : Action → ℕ
action_number DoNothing = 0
action_number InsertFirst = 1
action_number InsertLast = 2
action_number RemoveFirstItem = 3
action_number RemoveLastItem = 4
action_number RemoveFirstInsertLast = 5
action_number RemoveLastInsertFirst = 6
action_number RemoveFirstInsertFirst = 7
action_number RemoveLastInsertLast = 8
action_number RemoveExisting = 9
action_number ReplaceExisting = 10
action_number InsertAtSortPosition = 11
action_number RemoveExistingAndInsertAtSortPosition = 12
action_number RunFullQueryAgain = 13
action_number InsertAtSortPositionRemoveLast = 14

-- the query runs in full
abbrev pub is_full : Action → Bool
is_full RunFullQueryAgain = true
is_full _ = false

-- so many more, but no more than fits
abbrev pub more_by : ℕ → ℕ → ℕ
more_by k n = min (n + k) (2 ^ 64 - 1)

-- before any change
abbrev pub no_counts : Counts
no_counts = record { by_action = replicate 15 0; changes = 0; full = 0; asked = 0 }

-- after a change with that action, for which so many questions were asked
abbrev pub counted : Action → ℕ → Counts → Counts
counted a asked n = record {
  by_action = slice_set n.by_action (action_number a)
      (more_by 1 (slice_index n.by_action (action_number a)));
  changes = more_by 1 n.changes;
  full = if is_full a then more_by 1 n.full else n.full;
  asked = more_by asked n.asked;
}
