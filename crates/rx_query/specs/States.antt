-- The nineteen states of a query, a change of one document, and the rows before it.
use Rattle.std.specs.Prelude.{◌≡◌, ℕ, Bool, true, false, not, ◌&&◌, ◌||◌, ◌==◌, nat_lt, nat_le, ◌+◌, ◌*◌, List, [], ◌∷◌, length, map, Option, Some, None, is_some, if◌then◌else◌}
use Rattle.std.specs.List.{list_any}
use Rattle.std.specs.Ordering.{is_eq, is_lt}
use Rattle.std.specs.Str.{bytes_eq}
use Rattle.rx_value.specs.Fields.{Pairs}
use Rattle.rx_document.specs.declared.change.Before.{Before}
use Rattle.rx_document.specs.declared.change.Before.TheVariants.{Unknown, Absent, Live}
use Rattle.rx_document.specs.declared.change.Change.{Change}
use Rattle.rx_selector.specs.Holding.{all_hold}
use Rattle.rx_table.specs.States.{all_states}
use Rattle.rx_table.specs.declared.states.StateName.{StateName}
use Rattle.rx_table.specs.declared.states.StateName.TheVariants.{
  IsInsert,
  IsUpdate,
  IsDelete,
  HasLimit,
  IsFindOne,
  HasSkip,
  WasResultsEmpty,
  PreviousUnknown,
  WasLimitReached,
  SortParamsChanged,
  WasInResult,
  WasFirst,
  WasLast,
  WasSortedBeforeFirst,
  WasSortedAfterLast,
  IsSortedBeforeFirst,
  IsSortedAfterLast,
  WasMatching,
  DoesMatchNow,
}
use Rattle.rx_query.specs.QuerySpec.{QuerySpec}
use Rattle.rx_query.specs.Lists.{some_passes, first_passes, last_passes}
use Rattle.rx_query.specs.Order.{sorts_cmp, query_cmp}
use Rattle.rx_query.specs.declared.results.Row.{Row}

-- the fields that the document is known to have had before, if it was live
abbrev pub live_before : Before → Option Pairs
live_before Unknown = None
live_before Absent = None
live_before (Live fields) = Some fields

-- it isn't known what was before
abbrev pub is_unknown : Before → Bool
is_unknown Unknown = true
is_unknown Absent = false
is_unknown (Live fields) = false

-- the selector holds of such fields
abbrev pub is_match : QuerySpec → Pairs → Bool
is_match q x = all_hold q.clauses x

-- one precedes the other in the order of the query
abbrev pub precedes : QuerySpec → Pairs → Pairs → Bool
precedes q x y = is_lt (query_cmp q x y)

-- no field of the sort tells them apart
abbrev pub ties : QuerySpec → Pairs → Pairs → Bool
ties q x y = is_eq (sorts_cmp q.sorts x y)

-- the row is the changed document's
abbrev pub is_changed : Change → Row → Bool
is_changed c row = bytes_eq row.id c.id

-- the first row is the changed document's, or stands after such fields
abbrev pub before_first : QuerySpec → Change → List Row → Pairs → Bool
before_first q c rows x = first_passes (λ row. is_changed c row || precedes q x row.fields) rows

-- the last row is the changed document's, or stands before such fields
abbrev pub after_last : QuerySpec → Change → List Row → Pairs → Bool
after_last q c rows x = last_passes (λ row. is_changed c row || precedes q row.fields x) rows

-- whether a state holds
abbrev pub state_of : QuerySpec → Change → List Row → StateName → Bool
state_of q c rows IsInsert = not (is_some (live_before c.before)) && is_some c.after
state_of q c rows IsUpdate = is_some (live_before c.before) && is_some c.after
state_of q c rows IsDelete = is_some (live_before c.before) && not (is_some c.after)
state_of q c rows HasLimit = is_some q.limit
state_of q c rows IsFindOne = some_passes (λ limit. limit == 1) q.limit
state_of q c rows HasSkip = nat_lt 0 q.skip
state_of q c rows WasResultsEmpty = length rows == 0
state_of q c rows PreviousUnknown = is_unknown c.before
state_of q c rows WasLimitReached = some_passes (λ limit. nat_le limit (length rows)) q.limit
state_of q c rows SortParamsChanged =
    some_passes (λ x. not (some_passes (ties q x) (live_before c.before))) c.after
state_of q c rows WasInResult = list_any (is_changed c) rows
state_of q c rows WasFirst = first_passes (is_changed c) rows
state_of q c rows WasLast = last_passes (is_changed c) rows
state_of q c rows WasSortedBeforeFirst = some_passes (before_first q c rows) (live_before c.before)
state_of q c rows WasSortedAfterLast = some_passes (after_last q c rows) (live_before c.before)
state_of q c rows IsSortedBeforeFirst = some_passes (before_first q c rows) c.after
state_of q c rows IsSortedAfterLast = some_passes (after_last q c rows) c.after
state_of q c rows WasMatching = some_passes (is_match q) (live_before c.before)
state_of q c rows DoesMatchNow = some_passes (is_match q) c.after

-- the number of bits, the lowest first
abbrev pub number : List Bool → ℕ
number [] = 0
number (b ∷ bs) = (if b then 1 else 0) + 2 * number bs

-- answers as the bits of a number
unfoldable pub number_of : (StateName → Bool) → ℕ
number_of is = number (map is all_states)

-- the number whose bits are the states
abbrev pub bits_of : QuerySpec → Change → List Row → ℕ
bits_of q c rows = number_of (state_of q c rows)

-- a row of the document is there only where the document was live and matched
abbrev pub OnlyMatchingInside : QuerySpec → Change → List Row → Type 0
OnlyMatchingInside q c rows =
    state_of q c rows WasInResult ≡ true → state_of q c rows WasMatching ≡ true
