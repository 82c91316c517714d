-- What holds of the action of each row holds of the table's action.
use Rattle.rx_table.specs.declared.states.StateName.TheVariants.{IsFindOne, HasSkip, WasResultsEmpty, PreviousUnknown, WasLimitReached, SortParamsChanged, WasInResult, WasFirst, WasLast, WasSortedBeforeFirst, WasSortedAfterLast, IsSortedBeforeFirst, IsSortedAfterLast, WasMatching, DoesMatchNow}
use Rattle.std.proofs.Common.{◌≡◌, true, false, ◌&&◌, ◌||◌, not, ◌⊎◌, arith}
use Rattle.std.proofs.lemmas.Bool.{cond_both}
use Rattle.rx_actions.proofs.Changes.{States, table}
use Rattle.rx_table.specs.declared.action.Action.{Action}
use Rattle.rx_table.specs.declared.action.Action.TheVariants.{DoNothing, InsertFirst, InsertLast, RemoveFirstItem, RemoveLastItem, RemoveFirstInsertLast, RemoveLastInsertFirst, RemoveFirstInsertFirst, RemoveLastInsertLast, RemoveExisting, ReplaceExisting, InsertAtSortPosition, RemoveExistingAndInsertAtSortPosition, RunFullQueryAgain, InsertAtSortPositionRemoveLast}

pub record Leaves (P : Action → Type 0) (s : States) : Type 0 where
  pub leaves_empty : (s WasResultsEmpty) ≡ true → P DoNothing
  pub leaves_behind : (s WasInResult) ≡ false → (s WasSortedAfterLast) ≡ true → P DoNothing
  pub leaves_before : (s WasResultsEmpty) ≡ false → (s WasInResult) ≡ false
      → (s WasLimitReached) ≡ false
      → P RemoveFirstItem
  pub leaves_first : (s WasInResult) ≡ true → (s WasLimitReached) ≡ false → (s WasFirst) ≡ true
      → P RemoveFirstItem
  pub leaves_last : (s WasInResult) ≡ true → (s WasLimitReached) ≡ false → (s WasLast) ≡ true
      → P RemoveLastItem
  pub leaves_within : (s WasInResult) ≡ true → (s WasLimitReached) ≡ false → P RemoveExisting

pub record Enters (P : Action → Type 0) (s : States) : Type 0 where
  pub enters_empty : (s WasResultsEmpty) ≡ true → (s HasSkip) ≡ false → P InsertFirst
  pub enters_behind : (s IsSortedAfterLast) ≡ true → (s WasLimitReached) ≡ true → P DoNothing
  pub enters_last : (s IsSortedAfterLast) ≡ true → (s WasLimitReached) ≡ false → P InsertLast
  pub enters_first : (s IsSortedBeforeFirst) ≡ true → (s HasSkip) ≡ false
      → (s WasLimitReached) ≡ false
      → P InsertFirst
  pub enters_only : (s IsSortedBeforeFirst) ≡ true → (s HasSkip) ≡ false
      → (s WasLimitReached) ≡ true
      → (s IsFindOne) ≡ true → P RemoveFirstInsertFirst
  pub enters_full : (s IsSortedBeforeFirst) ≡ true → (s HasSkip) ≡ false
      → (s WasLimitReached) ≡ true
      → P RemoveLastInsertFirst
  pub enters_between : (s WasResultsEmpty) ≡ false → (s IsSortedAfterLast) ≡ false
      → (s IsSortedBeforeFirst) ≡ false → (s WasLimitReached) ≡ false → P InsertAtSortPosition
  pub enters_between_full : (s WasResultsEmpty) ≡ false → (s IsSortedAfterLast) ≡ false
      → (s IsSortedBeforeFirst) ≡ false → (s WasLimitReached) ≡ true
      → P InsertAtSortPositionRemoveLast

pub record Stays (P : Action → Type 0) (s : States) : Type 0 where
  pub stays_empty : (s WasResultsEmpty) ≡ true → P DoNothing
  pub stays_last : (s SortParamsChanged) ≡ false → (s WasLast) ≡ true → P RemoveLastInsertLast
  pub stays_first : (s SortParamsChanged) ≡ false → (s WasFirst) ≡ true → P RemoveFirstInsertFirst
  pub stays_within : (s SortParamsChanged) ≡ false → (s WasInResult) ≡ true → P ReplaceExisting
  pub stays_outside : (s SortParamsChanged) ≡ false → (s WasInResult) ≡ false → P DoNothing
  pub moves_within : (s WasInResult) ≡ true
      → (((s HasSkip) ≡ false) ⊎ ((s IsSortedBeforeFirst) ≡ false))
      → (((s WasLimitReached) ≡ false) ⊎ ((s IsSortedAfterLast) ≡ false))
      → P RemoveExistingAndInsertAtSortPosition
  pub stays_before : (s WasInResult) ≡ false → (s WasSortedBeforeFirst) ≡ true
      → (s IsSortedBeforeFirst) ≡ true → P DoNothing
  pub stays_behind : (s WasInResult) ≡ false → (s WasSortedAfterLast) ≡ true
      → (s IsSortedAfterLast) ≡ true
      → P DoNothing
  pub moves_to_last : (s WasInResult) ≡ false → (s WasSortedBeforeFirst) ≡ true
      → (s IsSortedAfterLast) ≡ true → (s WasLimitReached) ≡ false → P RemoveFirstInsertLast
  pub moves_to_only : (s WasInResult) ≡ false → (s WasSortedAfterLast) ≡ true
      → (s IsSortedBeforeFirst) ≡ true → (s HasSkip) ≡ false → (s IsFindOne) ≡ true
      → P RemoveFirstInsertFirst
  pub moves_to_first : (s WasInResult) ≡ false → (s WasSortedAfterLast) ≡ true
      → (s IsSortedBeforeFirst) ≡ true → (s HasSkip) ≡ false → P RemoveLastInsertFirst
  pub moves_inside : (s WasInResult) ≡ false → (s WasSortedAfterLast) ≡ true
      → (s IsSortedBeforeFirst) ≡ false → (s IsSortedAfterLast) ≡ false
      → P InsertAtSortPositionRemoveLast

-- a property of actions that holds of the action of each row, where the row's states are what the
-- rows above it leave
pub record EachRow (P : Action → Type 0) (s : States) : Type 0 where
  pub full : P RunFullQueryAgain
  pub neither : (s WasMatching) ≡ false → (s DoesMatchNow) ≡ false → P DoNothing
  pub leaves : (s WasMatching) ≡ true → (s DoesMatchNow) ≡ false → Leaves P s
  pub enters : (s WasMatching) ≡ false → (s DoesMatchNow) ≡ true → Enters P s
  pub stays : (s WasMatching) ≡ true → (s DoesMatchNow) ≡ true → Stays P s

-- the table's action has the property
pub table_rows : (P : Action → Type 0) (s : States) → EachRow P s → P (table s)
table_rows P s each =
    cond_both ((s PreviousUnknown)) _ _ P (λ _. each.full) (λ n1.
    cond_both (not (s WasMatching) && not (s DoesMatchNow)) _ _ P
    (λ e2. each.neither (grind arith) (grind arith)) (λ n2.
    cond_both ((s WasMatching) && not (s DoesMatchNow) && (s WasResultsEmpty)) _ _ P
    (λ e3. (each.leaves (grind arith) (grind arith)).leaves_empty (grind arith)) (λ n3.
    cond_both ((s WasMatching) && not (s DoesMatchNow) && not
    (s WasInResult) && (s WasSortedAfterLast)) _ _ P
    (λ e4. (each.leaves (grind arith) (grind arith)).leaves_behind (grind arith) (grind arith))
    (λ n4.
    cond_both ((s WasMatching) && not (s DoesMatchNow) && not (s WasInResult) && not
    (s WasLimitReached)) _ _ P (λ e5. (each.leaves (grind arith) (grind arith)).leaves_before
    (grind arith) (grind arith) (grind arith)) (λ n5.
    cond_both ((s WasMatching) && not (s DoesMatchNow) && not (s WasInResult)) _ _ P
    (λ _. each.full) (λ n6.
    cond_both ((s WasMatching) && not (s DoesMatchNow) && (s WasLimitReached)) _ _ P
    (λ _. each.full) (λ n7.
    cond_both ((s WasMatching) && not (s DoesMatchNow) && (s WasFirst)) _ _ P
    (λ e8. (each.leaves (grind arith) (grind arith)).leaves_first (grind arith) (grind arith)
    (grind arith)) (λ n8.
    cond_both ((s WasMatching) && not (s DoesMatchNow) && (s WasLast)) _ _ P
    (λ e9. (each.leaves (grind arith) (grind arith)).leaves_last (grind arith) (grind arith)
    (grind arith)) (λ n9.
    cond_both ((s WasMatching) && not (s DoesMatchNow)) _ _ P
    (λ e10. (each.leaves (grind arith) (grind arith)).leaves_within (grind arith) (grind arith))
    (λ n10.
    cond_both (not (s WasMatching) && (s WasResultsEmpty) && not (s HasSkip)) _ _ P
    (λ e11. (each.enters (grind arith) (grind arith)).enters_empty (grind arith) (grind arith))
    (λ n11.
    cond_both (not (s WasMatching) && (s WasResultsEmpty)) _ _ P (λ _. each.full) (λ n12.
    cond_both (not (s WasMatching) && (s IsSortedAfterLast) && (s WasLimitReached)) _ _ P
    (λ e13. (each.enters (grind arith) (grind arith)).enters_behind (grind arith) (grind arith))
    (λ n13.
    cond_both (not (s WasMatching) && (s IsSortedAfterLast)) _ _ P
    (λ e14. (each.enters (grind arith) (grind arith)).enters_last (grind arith) (grind arith))
    (λ n14.
    cond_both (not (s WasMatching) && (s IsSortedBeforeFirst) && (s HasSkip)) _ _ P (λ _. each.full)
    (λ n15.
    cond_both (not (s WasMatching) && (s IsSortedBeforeFirst) && not (s WasLimitReached)) _ _ P
    (λ e16. (each.enters (grind arith) (grind arith)).enters_first (grind arith) (grind arith)
    (grind arith)) (λ n16.
    cond_both (not (s WasMatching) && (s IsSortedBeforeFirst) && (s IsFindOne)) _ _ P
    (λ e17. (each.enters (grind arith) (grind arith)).enters_only (grind arith) (grind arith)
    (grind arith) (grind arith)) (λ n17.
    cond_both (not (s WasMatching) && (s IsSortedBeforeFirst)) _ _ P
    (λ e18. (each.enters (grind arith) (grind arith)).enters_full (grind arith) (grind arith)
    (grind arith)) (λ n18.
    cond_both (not (s WasMatching) && not (s WasLimitReached)) _ _ P
    (λ e19. (each.enters (grind arith) (grind arith)).enters_between (grind arith) (grind arith)
    (grind arith) (grind arith)) (λ n19.
    cond_both (not (s WasMatching)) _ _ P
    (λ e20. (each.enters (grind arith) (grind arith)).enters_between_full (grind arith)
    (grind arith)
    (grind arith) (grind arith)) (λ n20.
    cond_both ((s WasResultsEmpty)) _ _ P
    (λ e21. (each.stays (grind arith) (grind arith)).stays_empty (grind arith)) (λ n21.
    cond_both (not (s SortParamsChanged) && (s WasLast)) _ _ P
    (λ e22. (each.stays (grind arith) (grind arith)).stays_last (grind arith) (grind arith)) (λ n22.
    cond_both (not (s SortParamsChanged) && (s WasFirst)) _ _ P
    (λ e23. (each.stays (grind arith) (grind arith)).stays_first (grind arith) (grind arith))
    (λ n23.
    cond_both (not (s SortParamsChanged) && (s WasInResult)) _ _ P
    (λ e24. (each.stays (grind arith) (grind arith)).stays_within (grind arith) (grind arith))
    (λ n24.
    cond_both (not (s SortParamsChanged)) _ _ P
    (λ e25. (each.stays (grind arith) (grind arith)).stays_outside (grind arith) (grind arith))
    (λ n25.
    cond_both ((s WasInResult) && (not (s HasSkip) || not (s IsSortedBeforeFirst))
    && (not (s WasLimitReached) || not (s IsSortedAfterLast))) _ _ P
    (λ e26. (each.stays (grind arith) (grind arith)).moves_within (grind arith) (grind arith)
    (grind arith)) (λ n26.
    cond_both ((s WasInResult)) _ _ P (λ _. each.full) (λ n27.
    cond_both ((s WasSortedBeforeFirst) && (s IsSortedBeforeFirst)) _ _ P
    (λ e28. (each.stays (grind arith) (grind arith)).stays_before (grind arith) (grind arith)
    (grind arith)) (λ n28.
    cond_both ((s WasSortedAfterLast) && (s IsSortedAfterLast)) _ _ P
    (λ e29. (each.stays (grind arith) (grind arith)).stays_behind (grind arith) (grind arith)
    (grind arith)) (λ n29.
    cond_both ((s WasSortedBeforeFirst) && (s IsSortedAfterLast) && not (s WasLimitReached)) _ _ P
    (λ e30. (each.stays (grind arith) (grind arith)).moves_to_last (grind arith) (grind arith)
    (grind arith) (grind arith)) (λ n30.
    cond_both ((s WasSortedAfterLast) && (s IsSortedBeforeFirst) && not
    (s HasSkip) && (s IsFindOne)) _ _ P
    (λ e31. (each.stays (grind arith) (grind arith)).moves_to_only (grind arith) (grind arith)
    (grind arith) (grind arith) (grind arith)) (λ n31.
    cond_both ((s WasSortedAfterLast) && (s IsSortedBeforeFirst) && not (s HasSkip)) _ _ P
    (λ e32. (each.stays (grind arith) (grind arith)).moves_to_first (grind arith) (grind arith)
    (grind arith) (grind arith)) (λ n32.
    cond_both ((s WasSortedAfterLast) && not (s IsSortedBeforeFirst) && not (s IsSortedAfterLast)) _
    _ P (λ e33. (each.stays (grind arith) (grind arith)).moves_inside (grind arith) (grind arith)
    (grind arith) (grind arith)) (λ n33.
    each.full)))))))))))))))))))))))))))))))))
