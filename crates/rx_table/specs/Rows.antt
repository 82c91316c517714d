-- What to do with a query's rows, by the answers about a change.
use Rattle.std.specs.Prelude.{ℕ, Bool, ◌&&◌, ◌||◌, not, if◌then◌else◌}
use Rattle.rx_table.specs.States.{holds}
use Rattle.rx_table.specs.declared.action.Action.{Action}
use Rattle.rx_table.specs.declared.action.Action.TheVariants.{
  DoNothing,
  InsertFirst,
  InsertLast,
  RemoveFirstItem,
  RemoveLastItem,
  RemoveFirstInsertLast,
  RemoveLastInsertFirst,
  RemoveFirstInsertFirst,
  RemoveLastInsertLast,
  RemoveExisting,
  ReplaceExisting,
  InsertAtSortPosition,
  RemoveExistingAndInsertAtSortPosition,
  RunFullQueryAgain,
  InsertAtSortPositionRemoveLast,
}
use Rattle.rx_table.specs.declared.states.StateName.{StateName}
use Rattle.rx_table.specs.declared.states.StateName.TheVariants.{
  IsFindOne,
  HasSkip,
  WasResultsEmpty,
  PreviousUnknown,
  WasLimitReached,
  SortParamsChanged,
  WasInResult,
  WasFirst,
  WasLast,
  WasSortedBeforeFirst,
  WasSortedAfterLast,
  IsSortedBeforeFirst,
  IsSortedAfterLast,
  WasMatching,
  DoesMatchNow,
}

-- the action of the first row that fits, each row a condition and an action
abbrev pub action_of : (StateName → Bool) → Action
action_of is =
    let is_find_one = is IsFindOne in
    let has_skip = is HasSkip in
    let was_results_empty = is WasResultsEmpty in
    let was_limit_reached = is WasLimitReached in
    let sort_params_changed = is SortParamsChanged in
    let was_in_result = is WasInResult in
    let was_before_first = is WasSortedBeforeFirst in
    let was_after_last = is WasSortedAfterLast in
    let is_before_first = is IsSortedBeforeFirst in
    let is_after_last = is IsSortedAfterLast in
    let was_matching = is WasMatching in
    let does_match_now = is DoesMatchNow in
    let leaves = was_matching && not does_match_now in
    let is_past_skip = not has_skip || not is_before_first in
    let is_within_limit = not was_limit_reached || not is_after_last in
    if is PreviousUnknown then RunFullQueryAgain
    else if not was_matching && not does_match_now then DoNothing
    -- it matched and no longer does
    else if leaves && was_results_empty then DoNothing
    else if leaves && not was_in_result && was_after_last then DoNothing
    else if leaves && not was_in_result && not was_limit_reached then RemoveFirstItem
    else if leaves && not was_in_result then RunFullQueryAgain
    else if leaves && was_limit_reached then RunFullQueryAgain
    else if leaves && is WasFirst then RemoveFirstItem
    else if leaves && is WasLast then RemoveLastItem
    else if leaves then RemoveExisting
    -- it matches now and didn't before
    else if not was_matching && was_results_empty && not has_skip then InsertFirst
    else if not was_matching && was_results_empty then RunFullQueryAgain
    else if not was_matching && is_after_last && was_limit_reached then DoNothing
    else if not was_matching && is_after_last then InsertLast
    else if not was_matching && is_before_first && has_skip then RunFullQueryAgain
    else if not was_matching && is_before_first && not was_limit_reached then InsertFirst
    else if not was_matching && is_before_first && is_find_one then RemoveFirstInsertFirst
    else if not was_matching && is_before_first then RemoveLastInsertFirst
    else if not was_matching && not was_limit_reached then InsertAtSortPosition
    else if not was_matching then InsertAtSortPositionRemoveLast
    -- it matched and still does
    else if was_results_empty then DoNothing
    else if not sort_params_changed && is WasLast then RemoveLastInsertLast
    else if not sort_params_changed && is WasFirst then RemoveFirstInsertFirst
    else if not sort_params_changed && was_in_result then ReplaceExisting
    else if not sort_params_changed then DoNothing
    else if was_in_result && is_past_skip && is_within_limit
    then RemoveExistingAndInsertAtSortPosition
    else if was_in_result then RunFullQueryAgain
    else if was_before_first && is_before_first then DoNothing
    else if was_after_last && is_after_last then DoNothing
    else if was_before_first && is_after_last && not was_limit_reached then RemoveFirstInsertLast
    else if was_after_last && is_before_first && not has_skip && is_find_one
    then RemoveFirstInsertFirst
    else if was_after_last && is_before_first && not has_skip then RemoveLastInsertFirst
    else if was_after_last && not is_before_first && not is_after_last
    then InsertAtSortPositionRemoveLast
    else RunFullQueryAgain

-- the action of the states that these bits answer
abbrev pub table_of : ℕ → Action
table_of bits = action_of (holds bits)
