-- What is said of rows by the query's own order and what is said by the order of rows agree.
use Rattle.std.proofs.Common.{◌≡◌, ℕ, ◌-◌, Bool, false, not, ◌&&◌, ◌||◌, Option, Some, None, is_some, option_map, List, [], ◌∷◌, length, refl, ap, ◌∙◌}
use Rattle.std.proofs.lemmas.Bool.{cond_both}
use Rattle.std.specs.List.{AllByRecursion}
use Rattle.std.specs.Ordering.{is_lt}
use Rattle.rx_value.specs.Fields.{Pairs}
use Rattle.rx_value.proofs.Outcomes.{some_mapped}
use Rattle.rx_document.specs.declared.change.Change.{Change}
use Rattle.rx_table.specs.declared.action.Action.{Action}
use Rattle.rx_table.specs.declared.action.Action.TheVariants.{DoNothing, InsertFirst, InsertLast, RemoveFirstItem, RemoveLastItem, RemoveFirstInsertLast, RemoveLastInsertFirst, RemoveFirstInsertFirst, RemoveLastInsertLast, RemoveExisting, ReplaceExisting, InsertAtSortPosition, RemoveExistingAndInsertAtSortPosition, RunFullQueryAgain, InsertAtSortPositionRemoveLast}
use Rattle.rx_table.specs.declared.states.StateName.{StateName}
use Rattle.rx_table.specs.declared.states.StateName.TheVariants.{IsInsert, IsUpdate, IsDelete, HasLimit, IsFindOne, HasSkip, WasResultsEmpty, PreviousUnknown, WasLimitReached, SortParamsChanged, WasInResult, WasFirst, WasLast, WasSortedBeforeFirst, WasSortedAfterLast, IsSortedBeforeFirst, IsSortedAfterLast, WasMatching, DoesMatchNow}
use Rattle.rx_query.specs.After as spec
use Rattle.rx_query.specs.After.{row_after}
use Rattle.rx_query.specs.QuerySpec.{QuerySpec}
use Rattle.rx_query.specs.Lists.{some_passes, first_passes, last_passes, without_last, without_first}
use Rattle.rx_query.specs.States.{live_before, is_unknown, precedes, is_changed, before_first, after_last, state_of}
use Rattle.rx_query.specs.declared.results.Row.{Row}
use Rattle.rx_actions.proofs.Actions.{after, with_placed}
use Rattle.rx_actions.proofs.Changes.{states_at}
use Rattle.rx_actions.proofs.Live.{row_with}
use Rattle.rx_actions.proofs.RowOrder.{rows_query, Carries, agrees, placed_agrees, passes_agree}

-- ---- what is said of fields is said of their row

module _ {A B : Type 0} (f : A → B) where
  -- it passes as before
  pub passes_mapped : (p : B → Bool) (o : Option A)
      → some_passes (λ x. p (f x)) o ≡ some_passes p (option_map f o)
  passes_mapped p None = refl
  passes_mapped p (Some x) = refl

  -- so do two
  moved_mapped : (t : B → B → Bool) (was now : Option A)
      → some_passes (λ x. not (some_passes (λ y. t (f x) (f y)) was)) now
      ≡ some_passes (λ x. not (some_passes (t x) (option_map f was))) (option_map f now)
  moved_mapped t was None = refl
  moved_mapped t None (Some x) = refl
  moved_mapped t (Some y) (Some x) = refl

  -- what is told of whether they are there
  both_mapped : (g : Bool → Bool → Bool) (o r : Option A)
      → g (is_some o) (is_some r) ≡ g (is_some (option_map f o)) (is_some (option_map f r))
  both_mapped g o r =
      ap (λ b. g b (is_some r)) (some_mapped f o)
      ∙ ap (g (is_some (option_map f o))) (some_mapped f r)

-- ---- the states

-- such fields would make a row that carries its id
abbrev pub Carried : QuerySpec → List ℕ → Option Pairs → Type 0
Carried q id o = (x : Pairs) → o ≡ Some x → Carries q (row_with id x)

module _ (q : QuerySpec) (c : Change) (rows : List Row)
    (all : AllByRecursion (Carries q) rows) where
  -- the row has the id
  abbrev mine : Row → Bool
  mine = is_changed c

  -- one row precedes another
  abbrev before : Row → Row → Bool
  before = (rows_query q).before

  -- of the first row
  first_agrees : (o : Option Pairs) → Carried q c.id o
      → some_passes (before_first q c rows) o
      ≡ some_passes (λ x. first_passes (λ r. mine r || before x r) rows)
      (option_map (row_with c.id) o)
  first_agrees None at = refl
  first_agrees (Some x) at =
      passes_agree q (λ r. mine r || precedes q x r.fields)
      (λ r. mine r || before (row_with c.id x) r)
      (λ r here. ap (λ b. mine r || b) (ap is_lt (agrees q (row_with c.id x) r (at x refl) here)))
      rows all 0

  -- of the last row
  last_agrees : (o : Option Pairs) → Carried q c.id o
      → some_passes (after_last q c rows) o
      ≡ some_passes (λ x. last_passes (λ r. mine r || before r x) rows)
      (option_map (row_with c.id) o)
  last_agrees None at = refl
  last_agrees (Some x) at =
      passes_agree q (λ r. mine r || precedes q r.fields x)
      (λ r. mine r || before r (row_with c.id x))
      (λ r here. ap (λ b. mine r || b) (ap is_lt (agrees q r (row_with c.id x) here (at x refl))))
      rows all (length rows - 1)

  -- each state
  pub states_agree : is_unknown c.before ≡ false → Carried q c.id (live_before c.before)
      → Carried q c.id c.after → (s : StateName)
      → state_of q c rows s
      ≡ states_at (rows_query q) mine (option_map (row_with c.id) (live_before c.before))
      (row_after c) rows s
  states_agree known was now IsInsert =
      both_mapped (row_with c.id) (λ a b. not a && b) (live_before c.before) c.after
  states_agree known was now IsUpdate =
      both_mapped (row_with c.id) (λ a b. a && b) (live_before c.before) c.after
  states_agree known was now IsDelete =
      both_mapped (row_with c.id) (λ a b. a && not b) (live_before c.before) c.after
  states_agree known was now HasLimit = refl
  states_agree known was now IsFindOne = refl
  states_agree known was now HasSkip = refl
  states_agree known was now WasResultsEmpty = refl
  states_agree known was now PreviousUnknown = known
  states_agree known was now WasLimitReached = refl
  states_agree known was now SortParamsChanged =
      moved_mapped (row_with c.id) (rows_query q).alike (live_before c.before) c.after
  states_agree known was now WasInResult = refl
  states_agree known was now WasFirst = refl
  states_agree known was now WasLast = refl
  states_agree known was now WasSortedBeforeFirst = first_agrees (live_before c.before) was
  states_agree known was now WasSortedAfterLast = last_agrees (live_before c.before) was
  states_agree known was now IsSortedBeforeFirst = first_agrees c.after now
  states_agree known was now IsSortedAfterLast = last_agrees c.after now
  states_agree known was now WasMatching =
      passes_mapped (row_with c.id) (rows_query q).matches (live_before c.before)
  states_agree known was now DoesMatchNow =
      passes_mapped (row_with c.id) (rows_query q).matches c.after

-- ---- the actions

module _ (q : QuerySpec) (c : Change) (now : Carried q c.id c.after) where
  -- a row that is put in by the order
  put_agrees : (rows : List Row) → AllByRecursion (Carries q) rows
      → spec.with_placed q c rows
      ≡ with_placed (rows_query q).before (is_changed c) (row_after c) rows
  put_agrees rows all = go c.after now
    where
      go : (o : Option Pairs) → Carried q c.id o
          → with_placed (λ a b. precedes q a.fields b.fields) (is_changed c)
          (option_map (row_with c.id) o) rows
          ≡ with_placed (rows_query q).before (is_changed c) (option_map (row_with c.id) o) rows
      go None at = refl
      go (Some x) at = placed_agrees q (row_with c.id x) rows (at x refl) all

  -- rows that are left carry their ids
  all_without : (p : Row → Bool) (rows : List Row) → AllByRecursion (Carries q) rows
      → AllByRecursion (Carries q) (without_first p rows)
  all_without p [] all = tt
  all_without p (r ∷ rows) all =
      cond_both (p r) rows (r ∷ without_first p rows) (AllByRecursion (Carries q)) (λ _. all.1)
      (λ _. (all.0, all_without p rows all.1))

  -- so do those before the last
  all_without_last : (rows : List Row) → AllByRecursion (Carries q) rows
      → AllByRecursion (Carries q) (without_last rows)
  all_without_last [] all = tt
  all_without_last (r ∷ []) all = tt
  all_without_last (r ∷ s ∷ rows) all = (all.0, all_without_last (s ∷ rows) all.1)

  -- each action
  pub after_agrees : (action : Action) (rows : List Row) → AllByRecursion (Carries q) rows
      → spec.after action q c rows
      ≡ after (rows_query q).before (is_changed c) (row_after c) action rows
  after_agrees DoNothing rows all = refl
  after_agrees InsertFirst rows all = refl
  after_agrees InsertLast rows all = refl
  after_agrees RemoveFirstItem rows all = refl
  after_agrees RemoveLastItem rows all = refl
  after_agrees RemoveFirstInsertLast rows all = refl
  after_agrees RemoveLastInsertFirst rows all = refl
  after_agrees RemoveFirstInsertFirst rows all = refl
  after_agrees RemoveLastInsertLast rows all = refl
  after_agrees RemoveExisting rows all = refl
  after_agrees ReplaceExisting rows all = refl
  after_agrees InsertAtSortPosition rows all = put_agrees rows all
  after_agrees RemoveExistingAndInsertAtSortPosition rows all =
      put_agrees (without_first (is_changed c) rows) (all_without (is_changed c) rows all)
  after_agrees RunFullQueryAgain rows all = refl
  after_agrees InsertAtSortPositionRemoveLast rows all =
      put_agrees (without_last rows) (all_without_last rows all)
