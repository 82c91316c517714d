-- The states as the bits of a number.
use Rattle.std.specs.Prelude.{ℕ, Bool, ◌==◌, List, [], ◌∷◌}
use Rattle.std.specs.Int.{bit_at}
use Rattle.rx_table.specs.declared.states.StateName.{StateName}
use Rattle.rx_table.specs.declared.states.StateName.TheVariants.{
  IsInsert,
  IsUpdate,
  IsDelete,
  HasLimit,
  IsFindOne,
  HasSkip,
  WasResultsEmpty,
  PreviousUnknown,
  WasLimitReached,
  SortParamsChanged,
  WasInResult,
  WasFirst,
  WasLast,
  WasSortedBeforeFirst,
  WasSortedAfterLast,
  IsSortedBeforeFirst,
  IsSortedAfterLast,
  WasMatching,
  DoesMatchNow,
}

-- how many states there are
abbrev pub state_count : ℕ
state_count = 19

-- the number of a state, by which its bit is found
abbrev pub index_of : StateName → ℕ
index_of IsInsert = 0
index_of IsUpdate = 1
index_of IsDelete = 2
index_of HasLimit = 3
index_of IsFindOne = 4
index_of HasSkip = 5
index_of WasResultsEmpty = 6
index_of PreviousUnknown = 7
index_of WasLimitReached = 8
index_of SortParamsChanged = 9
index_of WasInResult = 10
index_of WasFirst = 11
index_of WasLast = 12
index_of WasSortedBeforeFirst = 13
index_of WasSortedAfterLast = 14
index_of IsSortedBeforeFirst = 15
index_of IsSortedAfterLast = 16
index_of WasMatching = 17
index_of DoesMatchNow = 18

-- whether a bit is set, counted from the lowest, which is bit 0
abbrev pub is_set : ℕ → ℕ → Bool
is_set bits i = bit_at bits i == 1

-- whether a state holds, by the answers in these bits
abbrev pub holds : ℕ → StateName → Bool
holds bits state = is_set bits (index_of state)

-- all states, by their numbers
abbrev pub all_states : List StateName
all_states =
    IsInsert ∷ IsUpdate ∷ IsDelete ∷ HasLimit ∷ IsFindOne ∷ HasSkip ∷ WasResultsEmpty
    ∷ PreviousUnknown ∷ WasLimitReached ∷ SortParamsChanged ∷ WasInResult ∷ WasFirst ∷ WasLast
    ∷ WasSortedBeforeFirst ∷ WasSortedAfterLast ∷ IsSortedBeforeFirst ∷ IsSortedAfterLast
    ∷ WasMatching ∷ DoesMatchNow ∷ []
