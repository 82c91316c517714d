-- What goes in and out is what the action says.
use Rattle.std.proofs.Common.{◌≡◌, suc, subst, ◌++◌, [], Bool, ℕ, ◌+◌, ◌-◌, ◌<◌, ◌≤◌, Some, None, List, ◌∷◌, length, insert, remove, sym, ap, ◌∙◌, arith}
use Rattle.rx_document.specs.declared.change.Change.{Change}
use Rattle.rx_table.specs.declared.action.Action.TheVariants.{RemoveLastInsertFirst, RemoveLastInsertLast, ReplaceExisting, InsertAtSortPosition, RemoveExistingAndInsertAtSortPosition, InsertAtSortPositionRemoveLast}
use Rattle.rx_query.specs.After.{row_after, with_row, after}
use Rattle.rx_query.specs.QuerySpec.{QuerySpec}
use Rattle.rx_query.specs.Lists.{insert_in_order, without_last, without_first, replaced_first}
use Rattle.rx_query.specs.States.{precedes, is_changed}
use Rattle.rx_query.specs.declared.results.Row.{Row}
use Rattle.rx_actions.specs.Moves.{IsFirst, IsFirstBut}
use Rattle.rx_actions.proofs.Firsts.{remove_last, remove_found, replace_found, last_to_first, last_for_last, placed_is_insert, placed_without_earlier, placed_without_later}

-- one row precedes another
abbrev by_order : QuerySpec → Row → Row → Bool
by_order q x y = precedes q x.fields y.fields

module _ (q : QuerySpec) (c : Change) (row : Row) (is : row_after c ≡ Some row)
    (rows : List Row) where
  -- the row is the document's
  with_is : (put : Row → List Row → List Row) (others : List Row)
      → put row others ≡ with_row put c others
  with_is put others =
      ap (λ o. elim o [ None ↦ others | Some r ↦ put r others ]) (sym is)

  -- in front, for the last row
  pub in_front : 0 < length rows
      → remove (row ∷ rows) (length rows) ≡ after RemoveLastInsertFirst q c rows
  in_front some =
      last_to_first rows row some ∙ with_is (λ r rs. r ∷ rs) (without_last rows)

  -- at the end, for the last row
  pub at_end : 0 < length rows
      → remove (insert rows (length rows) row) (length rows - 1) ≡ after RemoveLastInsertLast q c
      rows
  at_end some =
      last_for_last rows row some ∙ with_is (λ r rs. rs ++ r ∷ []) (without_last rows)

  -- in the old row's place
  pub in_place : (i : ℕ) → i < length rows → IsFirst (is_changed c) rows i
      → remove (insert rows i row) (i + 1) ≡ after ReplaceExisting q c rows
  in_place i h first =
      let next : i + 1 ≡ suc i = omega arith in
      ap (remove (insert rows i row)) next ∙ replace_found (is_changed c) rows i row h first
      ∙ with_is (replaced_first (is_changed c)) rows

  -- in its place by the order
  pub in_order : (i n : ℕ) → n ≡ length rows → i ≤ length rows
      → IsFirstBut (by_order q row) rows n i
      → insert rows i row ≡ after InsertAtSortPosition q c rows
  in_order i n e h first =
      placed_is_insert (by_order q) row rows i h
      (subst (λ k. IsFirstBut (by_order q row) rows k i) e first)
      ∙ with_is (insert_in_order (by_order q)) rows

  -- what goes in where the old row goes out
  pub placed_anew : (old : ℕ) → old < length rows → IsFirst (is_changed c) rows old
      → insert_in_order (by_order q) row (remove rows old)
      ≡ after RemoveExistingAndInsertAtSortPosition q c rows
  placed_anew old h first =
      ap (insert_in_order (by_order q) row) (remove_found (is_changed c) rows old h first)
      ∙ with_is (insert_in_order (by_order q)) (without_first (is_changed c) rows)

  -- and where the last row does
  pub placed_for_last : (last : ℕ) → last ≡ length rows - 1
      → insert_in_order (by_order q) row (remove rows last)
      ≡ after InsertAtSortPositionRemoveLast q c rows
  placed_for_last last is =
      ap (λ n. insert_in_order (by_order q) row (remove rows n)) is
      ∙ ap (insert_in_order (by_order q) row) (remove_last rows)
      ∙ with_is (insert_in_order (by_order q)) (without_last rows)

module _ (q : QuerySpec) (row : Row) (rows : List Row) (out i : ℕ) (h : out < length rows)
    (but : IsFirstBut (by_order q row) rows out i) where
  -- in its new place, behind the row that goes out
  pub to_later : out < i → i ≤ length rows
      → remove (insert rows i row) out ≡ insert_in_order (by_order q) row (remove rows out)
  to_later lt le = placed_without_earlier (by_order q) row rows out i lt le but.earlier but.here

  -- in its new place, before it
  pub to_earlier : i ≤ out
      → remove (insert rows i row) (out + 1) ≡ insert_in_order (by_order q) row (remove rows out)
  to_earlier le =
      let apart = but.not_out (omega arith) in
      let lower : i < out = grind (arith, apart) in
      let next : out + 1 ≡ suc out = omega arith in
      ap (remove (insert rows i row)) next
      ∙ placed_without_later (by_order q) row rows out i lower h but.earlier but.here
