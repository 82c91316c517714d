-- Queries over rows of any kind, collections of them, and the answers about a change of one row.
use Rattle.rx_table.specs.declared.states.StateName.TheVariants.{IsInsert, IsUpdate, IsDelete, HasLimit, IsFindOne, HasSkip, WasResultsEmpty, PreviousUnknown, WasLimitReached, SortParamsChanged, WasInResult, WasFirst, WasLast, WasSortedBeforeFirst, WasSortedAfterLast, IsSortedBeforeFirst, IsSortedAfterLast, WasMatching, DoesMatchNow}
use Rattle.std.specs.Prelude.{drop, ◌≡◌, ◌≢◌, ℕ, Bool, true, false, ◌&&◌, ◌||◌, not, Option, Some, None, is_some, List, [], ◌∷◌, filter, length, nat_lt, nat_le, ◌==◌, if◌then◌else◌}
use Rattle.rx_query.specs.Result.{at_most}
use Rattle.rx_table.specs.Rows.{action_of}
use Rattle.rx_table.specs.declared.states.StateName.{StateName}
use Rattle.std.specs.List.{list_any, AllByRecursion}
use Rattle.rx_query.specs.Lists.{sorted, some_passes, first_passes, last_passes}
use Rattle.rx_actions.proofs.Actions.{after, AreThere}
use Rattle.rx_table.specs.declared.action.Action.{Action}
use Rattle.rx_table.specs.declared.action.Action.TheVariants.{RunFullQueryAgain}

-- the answers to the questions about a change
abbrev pub States : Type 0
States = StateName → Bool

-- the action that the table gives
abbrev pub table : States → Action
table = action_of

-- a query over rows of any kind: what it selects, which row precedes which, which rows no field of
-- the sort tells apart, and the window
pub record Query (X : Type 0) : Type 0 where
  pub matches : X → Bool
  pub before : X → X → Bool
  pub alike : X → X → Bool
  pub skip : ℕ
  pub limit : Option ℕ

-- the selected rows in order, in the window
abbrev pub result : {X : Type 0} → Query X → List X → List X
result q docs = at_most q.limit (drop q.skip (sorted q.before (filter q.matches docs)))

-- how documents are told apart
pub record Keys (X K : Type 0) : Type 0 where
  pub key : X → K
  pub same : K → K → Bool

-- the document has the key
abbrev pub has_key : {X K : Type 0} → Keys X K → K → X → Bool
has_key keys k x = keys.same (keys.key x) k

-- the document of a key
abbrev pub held : {X : Type 0} → (X → Bool) → List X → Option X
held mine [] = None
held mine (x ∷ xs) = if mine x then Some x else held mine xs

-- all other documents
abbrev pub others_of : {X : Type 0} → (X → Bool) → List X → List X
others_of mine docs = filter (λ x. not (mine x)) docs

-- no key stands twice
abbrev pub IsCollection : {X K : Type 0} → Keys X K → List X → Type 0
IsCollection keys [] = Unit {0}
IsCollection keys (x ∷ xs) = AllByRecursion (λ y. has_key keys (keys.key x) y ≡ false)
    xs × IsCollection keys xs

-- the answers about a change of one row
abbrev pub states_at : {X : Type 0} → Query X → (X → Bool) → Option X → Option X → List X → States
states_at q mine was now rows IsInsert = not (is_some was) && is_some now
states_at q mine was now rows IsUpdate = is_some was && is_some now
states_at q mine was now rows IsDelete = is_some was && not (is_some now)
states_at q mine was now rows HasLimit = is_some q.limit
states_at q mine was now rows IsFindOne = some_passes (λ limit. limit == 1) q.limit
states_at q mine was now rows HasSkip = nat_lt 0 q.skip
states_at q mine was now rows WasResultsEmpty = length rows == 0
states_at q mine was now rows PreviousUnknown = false
states_at q mine was now rows WasLimitReached =
    some_passes (λ limit. nat_le limit (length rows)) q.limit
states_at q mine was now rows SortParamsChanged =
    some_passes (λ x. not (some_passes (q.alike x) was)) now
states_at q mine was now rows WasInResult = list_any mine rows
states_at q mine was now rows WasFirst = first_passes mine rows
states_at q mine was now rows WasLast = last_passes mine rows
states_at q mine was now rows WasSortedBeforeFirst =
    some_passes (λ x. first_passes (λ r. mine r || q.before x r) rows) was
states_at q mine was now rows WasSortedAfterLast =
    some_passes (λ x. last_passes (λ r. mine r || q.before r x) rows) was
states_at q mine was now rows IsSortedBeforeFirst =
    some_passes (λ x. first_passes (λ r. mine r || q.before x r) rows) now
states_at q mine was now rows IsSortedAfterLast =
    some_passes (λ x. last_passes (λ r. mine r || q.before r x) rows) now
states_at q mine was now rows WasMatching = some_passes q.matches was
states_at q mine was now rows DoesMatchNow = some_passes q.matches now

-- the orders and tests that a query may have
pub record IsLawful {X K : Type 0} (keys : Keys X K) (q : Query X) : Type 0 where
  pub limited : q.limit ≢ Some 0
  pub same_refl : (k : K) → keys.same k k ≡ true
  pub same_eq : (k l : K) → keys.same k l ≡ true → k ≡ l
  pub trans : (x y z : X) → q.before x y ≡ true → q.before y z ≡ true → q.before x z ≡ true
  pub either : (x y : X) → has_key keys (keys.key y) x ≡ false → q.before x y ≡ not (q.before y x)
  pub alike_before : (x y z : X) → q.alike x y ≡ true → keys.key x ≡ keys.key y
      → q.before x z ≡ q.before y z

-- the action is a full run, or its rows are there and it gives the result on the changed collection
pub record IsPatch {X : Type 0} (before : X → X → Bool) (mine : X → Bool) (now : Option X)
    (rows next : List X) (action : Action) : Type 0 where
  pub rows_there : action ≢ RunFullQueryAgain → AreThere mine now action rows
  pub gives : action ≢ RunFullQueryAgain → after before mine now action rows ≡ next
