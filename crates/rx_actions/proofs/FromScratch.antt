-- The rows that a query gives from scratch are its live documents' rows, in order and cut.
use Rattle.std.proofs.Common.{◌≡◌, Bool, true, false, cond, List, [], ◌∷◌, map, filter, drop, refl, ap, ◌∙◌}
use Rattle.std.specs.List.{AllByRecursion}
use Rattle.std.specs.Map.{values_of}
use Rattle.rx_value.proofs.Lists.{all_passed}
use Rattle.rx_document.specs.Documents.{Documents}
use Rattle.rx_document.specs.declared.stored.Stored.{Stored}
use Rattle.rx_query.proofs.Rows.{map-drop, map-cut, all_values}
use Rattle.rx_query.specs.QuerySpec.{QuerySpec}
use Rattle.rx_query.specs.Lists.{insert_in_order, sorted}
use Rattle.rx_query.specs.Result.{is_due, stored_before, at_most, row_of, fresh_rows}
use Rattle.rx_query.specs.States.{is_match, precedes}
use Rattle.rx_query.specs.declared.results.Row.{Row}
use Rattle.rx_query.specs.Result as right
use Rattle.rx_actions.proofs.Changes.{result}
use Rattle.rx_actions.proofs.Collections.{all-sorted}
use Rattle.rx_actions.proofs.Live.{live_rows}
use Rattle.rx_actions.proofs.RowOrder.{rows_query, Carries, placed_agrees}

-- ---- in order

-- documents in order have their rows in order
map-placed : {A B : Type 0} (f : A → B) (before : B → B → Bool) (x : A) (xs : List A)
    → map f (insert_in_order (λ a b. before (f a) (f b)) x xs)
    ≡ insert_in_order before (f x) (map f xs)
map-placed f before x [] = refl
map-placed f before x (y ∷ ys) =
    let rest = map-placed f before x ys in
    let behind = insert_in_order (λ a b. before (f a) (f b)) x ys in
    elim (before (f x) (f y)) as (λ b. map f (cond b (x ∷ y ∷ ys) (y ∷ behind))
    ≡ cond b (f x ∷ f y ∷ map f ys) (f y ∷ insert_in_order before (f x) (map f ys)))
    [ true ↦ refl | false ↦ ap (λ zs. f y ∷ zs) rest ]

map-sorted : {A B : Type 0} (f : A → B) (before : B → B → Bool) (xs : List A)
    → map f (sorted (λ a b. before (f a) (f b)) xs) ≡ sorted before (map f xs)
map-sorted f before [] = refl
map-sorted f before (x ∷ xs) =
    map-placed f before x (sorted (λ a b. before (f a) (f b)) xs)
    ∙ ap (insert_in_order before (f x)) (map-sorted f before xs)

-- rows that carry their ids stand in one order by their fields and by the core's
sorted_agrees : (q : QuerySpec) (rows : List Row) → AllByRecursion (Carries q) rows
    → sorted (λ a b. precedes q a.fields b.fields) rows ≡ sorted (rows_query q).before rows
sorted_agrees q [] all = refl
sorted_agrees q (r ∷ rows) all =
    let by_core = sorted (rows_query q).before rows in
    ap (insert_in_order (λ a b. precedes q a.fields b.fields) r) (sorted_agrees q rows all.1)
    ∙ placed_agrees q r by_core all.0 (all-sorted (Carries q) (rows_query q).before rows all.1)

-- ---- the rows of the due documents

-- they are the selected ones of the live rows
due_rows : (q : QuerySpec) (es : Documents)
    → map row_of (filter (is_due q) (values_of es))
    ≡ filter (rows_query q).matches (live_rows es)
due_rows q [] = refl
due_rows q (e ∷ es) =
    go e.1.state.deleted (is_match q e.1.state.fields) refl refl (due_rows q es)
  where
    go : (d m : Bool) → e.1.state.deleted ≡ d → is_match q e.1.state.fields ≡ m
        → map row_of (filter (is_due q) (values_of es)) ≡ filter (rows_query q).matches
        (live_rows es)
        → map row_of (filter (is_due q) (values_of (e ∷ es)))
        ≡ filter (rows_query q).matches (live_rows (e ∷ es))
    go true true p r ih = simp (p, r, ih)
    go true false p r ih = simp (p, r, ih)
    go false true p r ih = simp (p, r, ih)
    go false false p r ih = simp (p, r, ih)

-- what holds of the rows of all holds of the rows
all_mapped : (P : Row → Type 0) (ds : List Stored) → AllByRecursion (λ d. P (row_of d)) ds
    → AllByRecursion P (map row_of ds)
all_mapped P [] h = tt
all_mapped P (d ∷ ds) h = (h.0, all_mapped P ds h.1)

-- ---- from scratch

-- the rows from scratch are the core's result
pub fresh_is : (q : QuerySpec) (es : Documents) → right.IsCollection q.primary es
    → fresh_rows q es ≡ result (rows_query q) (live_rows es)
unfolding fresh_rows
fresh_is q es col =
    let due = filter (is_due q) (values_of es) in
    let carried : AllByRecursion (Carries q) (map row_of due) =
    all_mapped (Carries q) due (all_passed (λ d. Carries q (row_of d)) (is_due q) (values_of es)
    (all_values (λ d. Carries q (row_of d)) es col.carried)) in
    let same : map row_of (sorted (stored_before q) due)
    ≡ sorted (rows_query q).before (filter (rows_query q).matches (live_rows es)) =
    map-sorted row_of (λ a b. precedes q a.fields b.fields) due
    ∙ sorted_agrees q (map row_of due) carried
    ∙ ap (sorted (rows_query q).before) (due_rows q es) in
    map-cut row_of q.limit (drop q.skip (sorted (stored_before q) due))
    ∙ ap (at_most q.limit) (map-drop row_of q.skip (sorted (stored_before q) due))
    ∙ ap (λ rows. at_most q.limit (drop q.skip rows)) same
