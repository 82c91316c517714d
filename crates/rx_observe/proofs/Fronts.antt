-- The front of a query: after a change of one document, from scratch, and what it tells.
use Rattle.std.proofs.Common.{◌≡◌, ℕ, suc, ◌+◌, ◌-◌, ◌<◌, ◌≤◌, ◌==◌, ◌&&◌, ◌||◌, Bool, true, false, not, cond, Option, Some, None, option_map, List, [], ◌∷◌, ◌++◌, length, map, filter, take, drop, refl, sym, ap, ◌∙◌, subst, arith, append-nil, ltb, length-take}
use Rattle.std.proofs.lemmas.Bool.{false≢true, or_parts}
use Rattle.std.proofs.lemmas.Cmp.{tied_itself}
use Rattle.std.proofs.lemmas.Bool.Decides.{nat_tests}
use Rattle.std.proofs.lemmas.List.{take-append-drop, take-append-le, drop_all}
use Rattle.std.specs.List.{AllByRecursion, list_any}
use Rattle.std.specs.Ordering.{is_lt}
use Rattle.std.specs.Map.{values_of}
use Rattle.std.specs.Prelude.{IfSome, nat_le}
use Rattle.rx_value.specs.Fields.{Pairs}
use Rattle.rx_value.specs.Named.{named}
use Rattle.rx_value.proofs.Lists.{all_passed, all_weaker}
use Rattle.rx_document.specs.Change.{change_of, DifferAt}
use Rattle.rx_document.specs.Documents.{Documents, live}
use Rattle.rx_document.specs.declared.change.Change.{Change}
use Rattle.rx_query.proofs.Rows.{map-cut}
use Rattle.rx_query.specs.After.{row_after, with_placed, without_changed}
use Rattle.rx_query.specs.Lists.{some_passes, last_passes, insert_in_order, sorted, without_first}
use Rattle.rx_query.specs.QuerySpec.{QuerySpec, with_limit}
use Rattle.rx_query.specs.Result.{is_due, stored_before, at_most, row_of, fresh_rows, IsCollection}
use Rattle.rx_query.specs.States.{live_before, precedes, is_changed, is_match}
use Rattle.rx_query.specs.declared.results.Row.{Row}
use Rattle.rx_actions.proofs.Changes.{Query, held, IsLawful}
use Rattle.rx_actions.proofs.Collections.{all-placed, all-sorted, ordered-sorted, apart-filter, each_apart, rest_of, with_held, others_rest, held_is_mine, sorted_is}
use Rattle.rx_actions.proofs.Edits.{without-put}
use Rattle.rx_actions.proofs.FromScratch.{fresh_is}
use Rattle.rx_actions.proofs.Live.{same_but, live_rows, others_live, distinct_live, row_with, held_live}
use Rattle.rx_actions.proofs.Ranks.{rank, placed_is, Ordered}
use Rattle.rx_actions.proofs.Readings.{Others}
use Rattle.rx_actions.proofs.RowOrder.{row_keys, row_total, rows_query, lawful, agrees, Carries, placed_agrees, passes_agree}
use Rattle.rx_actions.proofs.Windows.{length-put}
use Rattle.rx_actions.proofs.TheTable.{was_live, live_carry, key_carries}
use Rattle.rx_observe.proofs.FrontLists.{none_mine, ordered_front, taken_out, without_none, put_inside, put_behind, all_front}
use Rattle.rx_observe.specs.Front.{unlimited, kept_limit, most_kept, IsFrontOf, no_front, IsFront, StaysFront, LeavesOthers, suffices, stood_behind, enters, entered}
use Rattle.rx_observe.specs.declared.front.Front.{Front}

-- ---- a change of one document

module _ (q : QuerySpec) (unskipped : q.skip ≡ 0) (c : Change) (old new : Documents)
    (col : IsCollection q.primary old) (col' : IsCollection q.primary new)
    (differ : DifferAt c.id old new) (change : c ≡ change_of c.id old new) where
  -- the query without its limit, over rows
  abbrev rq : Query Row
  rq = rows_query (unlimited q)

  abbrev law : IsLawful row_keys rq
  law = lawful (unlimited q) (λ none. cc)

  -- the row is the changed document's
  abbrev mine : Row → Bool
  mine = is_changed c

  -- the matching rows of all other documents
  abbrev others : List Row
  others = rest_of row_keys rq law c.id (live_rows new)

  -- in order, of which none is the changed document's
  ordered : Others rq.before mine others
  ordered =
      others_rest row_keys rq law c.id (live_rows new) (distinct_live new col'.rising col'.keyed)

  -- with a row of that document, where it matches
  abbrev with_one : Option Row → List Row
  with_one o = with_held row_keys rq law c.id o others

  -- they are the same before and after
  others_same : rest_of row_keys rq law c.id (live_rows old) ≡ others
  others_same =
      ap (λ rows. sorted rq.before (filter rq.matches rows))
      (others_live c.id old col.keyed
      ∙ ap live_rows (same_but c.id old new col.rising col'.rising differ)
      ∙ sym (others_live c.id new col'.keyed))

  -- the result without the limit, over any documents
  in_order : (es : Documents) → IsCollection q.primary es
      → fresh_rows (unlimited q) es ≡ sorted rq.before (filter rq.matches (live_rows es))
  in_order es here =
      fresh_is (unlimited q) es here
      ∙ ap (λ n. drop n (sorted rq.before (filter rq.matches (live_rows es)))) unskipped

  all_rows : (es : Documents) → IsCollection q.primary es
      → fresh_rows (unlimited q) es
      ≡ with_held row_keys rq law c.id (held mine (live_rows es))
      (rest_of row_keys rq law c.id (live_rows es))
  all_rows es here =
      in_order es here
      ∙ sorted_is row_keys rq law c.id (live_rows es) (distinct_live es here.rising here.keyed)

  -- without the document's row the others are left
  without_one : (o : Option Row) → held mine (live_rows old) ≡ o
      → without_first mine (with_one o) ≡ others
  without_one None is = without_none mine others ordered.none
  without_one (Some x) is =
      elim (rq.matches x) as
      (λ b. without_first mine (cond b (insert_in_order rq.before x others) others) ≡ others) [
        | true ↦ ap (without_first mine) (placed_is rq.before x others)
            ∙ without-put mine x (held_is_mine row_keys rq law c.id (live_rows old) x is)
            (rank rq.before x others) others ordered.none
        | false ↦ without_none mine others ordered.none
      ]

  rows_before : without_first mine (fresh_rows (unlimited q) old) ≡ others
  rows_before =
      ap (without_first mine) (all_rows old col
      ∙ ap (with_held row_keys rq law c.id (held mine (live_rows old))) others_same)
      ∙ without_one (held mine (live_rows old)) refl

  -- and with the new one they are the result after the change
  rows_now : fresh_rows (unlimited q) new ≡ with_one (row_after c)
  rows_now =
      all_rows new col'
      ∙ ap with_one (held_live c.id new col'.rising col'.keyed
      ∙ ap (λ (x : Change). option_map (row_with c.id) x.after) (sym change))

  -- ---- where the document's row isn't among the first ones

  -- without a row before the change the others are all
  unmatched : (o : Option Pairs) → some_passes (is_match q) o ≡ false
      → with_one (option_map (row_with c.id) o) ≡ others
  unmatched None h = refl
  unmatched (Some x) h =
      ap (λ b. cond b (insert_in_order rq.before (row_with c.id x) others) others) h

  rows_as_before : fresh_rows (unlimited q) old
      ≡ with_one (option_map (row_with c.id) (live_before c.before))
  rows_as_before =
      all_rows old col
      ∙ ap (with_held row_keys rq law c.id (held mine (live_rows old))) others_same
      ∙ ap with_one (held_live c.id old col.rising col.keyed
      ∙ ap (option_map (row_with c.id)) (sym (was_live (live (named old c.id))))
      ∙ ap (λ (x : Change). option_map (row_with c.id) (live_before x.before)) (sym change))

  -- what was live
  before_is : live_before c.before ≡ live (named old c.id)
  before_is =
      ap (λ (x : Change). live_before x.before) change ∙ was_live (live (named old c.id))

  -- no other row is the document's
  alone : (row : Row)
      → AllByRecursion (λ r. mine r ≡ true → r ≡ row) (with_one (Some row))
  alone row =
      let none = all_weaker (λ (r : Row). mine r ≡ false) (λ r. mine r ≡ true → r ≡ row)
      (λ r h k. absurd (false≢true (sym h ∙ k))) others ordered.none in
      elim (rq.matches row) as (λ b. AllByRecursion (λ r. mine r ≡ true → r ≡ row)
      (cond b (insert_in_order rq.before row others) others)) [
        | true ↦ all-placed (λ r. mine r ≡ true → r ≡ row) rq.before row others (λ _. refl) none
        | false ↦ none
      ]

  -- the rows before the change are in order, and carry their ids
  order_before : Ordered rq.before (fresh_rows (unlimited q) old)
  order_before =
      let docs = live_rows old in
      subst (Ordered rq.before) (sym (in_order old col))
      (ordered-sorted rq.before law.trans (filter rq.matches docs)
      (apart-filter rq.before law.trans rq.matches docs
      (each_apart row_keys rq law docs (distinct_live old col.rising col.keyed))))

  before_carry : AllByRecursion (Carries q) (fresh_rows (unlimited q) old)
  before_carry =
      let docs = live_rows old in
      subst (AllByRecursion (Carries q)) (sym (in_order old col))
      (all-sorted (Carries q) rq.before (filter rq.matches docs)
      (all_passed (Carries q) rq.matches docs (live_carry q old col)))

  -- nothing precedes itself
  itself : (row : Row) → rq.before row row ≡ true → ⊥
  itself row h = false≢true (sym (ap is_lt (tied_itself (row_total (unlimited q)) row)) ∙ h)

  module _ (rows : List Row) (whole : Bool)
      (f : IsFrontOf rows whole (fresh_rows (unlimited q) old)) where
    -- where it didn't match before
    pub none_matched : some_passes (is_match q) (live_before c.before) ≡ false
        → without_changed c rows ≡ rows
    none_matched h =
        without_none mine rows
        (all_front (λ r. mine r ≡ false) rows f.behind
        (subst (AllByRecursion (λ r. mine r ≡ false))
        (sym (f.split ∙ rows_as_before ∙ unmatched (live_before c.before) h)) ordered.none))

    -- where it stood behind all
    behind_one : (o : Option Pairs) → live_before c.before ≡ o
        → some_passes (λ x. last_passes (λ r. precedes q r.fields x) rows) o ≡ true
        → without_changed c rows ≡ rows
    behind_one None is h = absurd (false≢true h)
    behind_one (Some x) is h =
        let row = row_with c.id x in
        let at = key_carries q old col c.id (live_before c.before) before_is x is in
        let carry = all_front (Carries q) rows f.behind
        (subst (AllByRecursion (Carries q)) (sym f.split) before_carry) in
        let same : last_passes (λ r. precedes q r.fields x) rows
        ≡ last_passes (λ r. rq.before r row) rows =
        passes_agree q (λ r. precedes q r.fields x) (λ r. rq.before r row)
        (λ r here. ap is_lt (agrees q r row here at)) rows carry (length rows - 1) in
        let all_is : fresh_rows (unlimited q) old ≡ with_one (Some row) =
        rows_as_before ∙ ap (λ o. with_one (option_map (row_with c.id) o)) is in
        without_none mine rows
        (none_mine rq.before mine row law.trans (itself row) rows
        (ordered_front rq.before rows f.behind (subst (Ordered rq.before) (sym f.split)
        order_before))
        (all_front (λ r. mine r ≡ true → r ≡ row) rows f.behind
        (subst (AllByRecursion (λ r. mine r ≡ true → r ≡ row)) (sym (f.split ∙ all_is))
        (alone row)))
        (sym same ∙ h))

    pub none_behind : stood_behind q c rows ≡ true → without_changed c rows ≡ rows
    none_behind h = behind_one (live_before c.before) refl h

  -- ---- the document's row taken out and put in

  -- the others carry their ids
  others_carry : AllByRecursion (Carries q) others
  others_carry =
      let kept = filter (λ r. not (mine r)) (live_rows new) in
      all-sorted (Carries q) rq.before (filter rq.matches kept)
      (all_passed (Carries q) rq.matches kept
      (all_passed (Carries q) (λ r. not (mine r)) (live_rows new) (live_carry q new col')))

  module _ (rows : List Row) (whole : Bool) (f : IsFrontOf rows whole others) where
    -- so do those of a front
    front_carries : AllByRecursion (Carries q) rows
    front_carries =
        all_front (Carries q) rows f.behind (subst (AllByRecursion (Carries q)) (sym f.split)
        others_carry)

    -- the new row, put in where it stands among them or they are whole
    put_in : (o : Option Pairs) → c.after ≡ o
        → IsFrontOf (cond (some_passes
        (λ x. is_match q x && (whole || last_passes (λ row. precedes q x row.fields) rows)) o)
        (elim (option_map (row_with c.id) o) [
          | None ↦ rows
          | Some row ↦ insert_in_order (λ a b. precedes q a.fields b.fields) row rows
        ]) rows) whole (with_one (option_map (row_with c.id) o))
    put_in None is = f
    put_in (Some x) is =
        let row = row_with c.id x in
        let at : Carries q row =
        key_carries q new col' c.id c.after (ap (λ (y : Change). y.after) change) x is in
        let same : last_passes (λ r. precedes q x r.fields) rows
        ≡ last_passes (rq.before row) rows =
        passes_agree q (λ r. precedes q x r.fields) (rq.before row)
        (λ r here. ap is_lt (agrees q row r at here)) rows front_carries (length rows - 1) in
        let placed = placed_agrees q row rows at front_carries in
        go row x same placed (is_match q x)
        (whole || last_passes (λ r. precedes q x r.fields) rows) refl
      where
        go : (row : Row) (x : Pairs)
            → last_passes (λ r. precedes q x r.fields) rows ≡ last_passes (rq.before row) rows
            → insert_in_order (λ a b. precedes q a.fields b.fields) row rows
            ≡ insert_in_order rq.before row rows
            → (m b : Bool) → (whole || last_passes (λ r. precedes q x r.fields) rows) ≡ b
            → IsFrontOf (cond (m && b)
            (insert_in_order (λ a d. precedes q a.fields d.fields) row rows) rows) whole
            (cond m (insert_in_order rq.before row others) others)
        go row x same placed true true h =
            subst (λ rs. IsFrontOf rs whole (insert_in_order rq.before row others)) (sym placed)
            (put_inside rq.before row law.trans rows whole others f
            (ap (λ b. whole || b) (sym same) ∙ h))
        go row x same placed true false h =
            put_behind rq.before row law.trans rows whole others ordered.up f
            (ap (λ b. whole || b) (sym same) ∙ h)
        go row x same placed false true h = f
        go row x same placed false false h = f

  -- a front before the change, with the document's old row taken out and its new one put in
  pub stays_first : (rows : List Row) (whole : Bool)
      → IsFrontOf rows whole (fresh_rows (unlimited q) old)
      → (let left = without_changed c rows in
      IsFrontOf (entered q c whole left) whole (fresh_rows (unlimited q) new))
  stays_first rows whole f =
      let left = without_changed c rows in
      let taken = taken_out mine rows whole (fresh_rows (unlimited q) old) others f rows_before in
      subst (IsFrontOf (entered q c whole left) whole)
      (sym rows_now) (put_in left whole taken c.after refl)

-- ---- queries that keep a front

-- they leave out no rows
pub kept_unskipped : (q : QuerySpec) (limit : ℕ) → kept_limit q ≡ Some limit → q.skip ≡ 0
kept_unskipped q limit h =
    (elim (q.skip == 0) as (λ b. (q.skip == 0) ≡ b → cond b q.limit None ≡ Some limit
    → q.skip ≡ 0) [
      | true ↦ (λ e h. grind (arith, nat_tests))
      | false ↦ (λ e h. cc)
    ]) refl h

-- and have that limit
pub kept_is : (q : QuerySpec) (limit : ℕ) → kept_limit q ≡ Some limit → q.limit ≡ Some limit
kept_is q limit h =
    (elim (q.skip == 0) as (λ b. cond b q.limit None ≡ Some limit → q.limit ≡ Some limit)
    [ true ↦ (λ h. h) | false ↦ (λ h. cc) ]) h

-- no rows are a front of any query
pub nothing_kept : (q : QuerySpec) (documents : Documents) → IsFront q documents no_front
nothing_kept q documents = record {
  first = record {
    behind = fresh_rows (unlimited q) documents;
    split = refl;
    none_behind = λ h. absurd (false≢true h);
  };
  few = elim (kept_limit q) as (λ o. IfSome o (λ limit. 0 ≤ most_kept limit))
      [ None ↦ tt | Some limit ↦ omega arith ];
  none = λ _. refl;
}

-- where no front is kept, there is none before and after
pub unfollowed : (q : QuerySpec) (c : Change) (f : Front) → kept_limit q ≡ None
    → StaysFront q c f f
unfollowed q c f none old new col col' differ change front =
    subst (IsFront q new) (sym (front.none none)) (nothing_kept q new)

-- what is said of a limit is said of the query's
kept_few : (q : QuerySpec) (limit n : ℕ) → kept_limit q ≡ Some limit → n ≤ most_kept limit
    → IfSome (kept_limit q) (λ l. n ≤ most_kept l)
kept_few q limit n is le = subst (λ o. IfSome o (λ l. n ≤ most_kept l)) (sym is) le

-- where the document's row isn't among the first ones, those of all others are left
pub leaves_unmatched : (q : QuerySpec) (c : Change) (rows : List Row)
    → some_passes (is_match q) (live_before c.before) ≡ false → LeavesOthers q c rows rows
leaves_unmatched q c rows h old new whole skip col col' differ change f =
    sym (none_matched q skip c old new col col' differ change rows whole f h)

pub leaves_behind : (q : QuerySpec) (c : Change) (rows : List Row)
    → stood_behind q c rows ≡ true → LeavesOthers q c rows rows
leaves_behind q c rows h old new whole skip col col' differ change f =
    sym (none_behind q skip c old new col col' differ change rows whole f h)

-- where no row is the document's
not_found : (c : Change) (rows : List Row) → list_any (is_changed c) rows ≡ false
    → without_changed c rows ≡ rows
not_found c [] h = refl
not_found c (r ∷ rows) h =
    let parts = or_parts (is_changed c r) (list_any (is_changed c) rows) h in
    rw (parts.0) (ap (λ rs. r ∷ rs) (not_found c rows parts.1))

pub leaves_absent : (q : QuerySpec) (c : Change) (rows : List Row)
    → list_any (is_changed c) rows ≡ false → LeavesOthers q c rows rows
leaves_absent q c rows h old new whole skip col col' differ change f = sym (not_found c rows h)

-- taken out
pub leaves_taken : (q : QuerySpec) (c : Change) (rows left : List Row)
    → left ≡ without_changed c rows → LeavesOthers q c rows left
leaves_taken q c rows left is old new whole skip col col' differ change f = is

-- after a change
pub followed : (q : QuerySpec) (c : Change) (limit : ℕ) (f g : Front) (left rows : List Row)
    → kept_limit q ≡ Some limit → LeavesOthers q c f.rows left
    → rows ≡ entered q c f.whole left
    → length g.rows ≤ most_kept limit
    → ((all : List Row) → IsFrontOf rows f.whole all → IsFrontOf g.rows g.whole all)
    → StaysFront q c f g
followed q c limit f g left rows kept leaves is few cut old new col col' differ change front =
    let skip = kept_unskipped q limit kept in
    let all = fresh_rows (unlimited q) new in
    let first = stays_first q skip c old new col col' differ change f.rows f.whole front.first in
    let left_is = leaves old new f.whole skip col col' differ change front.first in
    record {
      first = cut all
          (subst (λ rs. IsFrontOf rs f.whole all)
          (sym (is ∙ ap (entered q c f.whole) left_is)) first);
      few = kept_few q limit (length g.rows) kept few;
      none = λ none. let bad : Some limit ≡ None = sym kept ∙ none in cc;
    }

-- one more row at most
pub placed_length : (q : QuerySpec) (c : Change) (rows : List Row)
    → length (with_placed q c rows) ≤ length rows + 1
placed_length q c rows =
    let before : Row → Row → Bool = λ a b. precedes q a.fields b.fields in
    elim (row_after c) as (λ o. length (elim o as (λ _. List Row)
    [ None ↦ rows | Some row ↦ insert_in_order before row rows ]) ≤ length rows + 1) [
      | None ↦ omega arith
      | Some row ↦
          let n = ap length (placed_is before row rows)
          ∙ length-put (rank before row rows) row rows in
          omega arith
    ]

-- so there is room for it
pub room_for : (q : QuerySpec) (c : Change) (limit : ℕ) (whole : Bool) (rows left put : List Row)
    → kept_limit q ≡ Some limit → IfSome (kept_limit q) (λ l. length rows ≤ most_kept l)
    → length left ≤ length rows → put ≡ entered q c whole left
    → length put ≤ most_kept limit + 1
room_for q c limit whole rows left put kept few fewer is =
    let few' : length rows ≤ most_kept limit =
    subst (λ o. IfSome o (λ l. length rows ≤ most_kept l)) kept few in
    let placed = placed_length q c left in
    let more : length (entered q c whole left) ≤ length left + 1 =
    elim (enters q c whole left) as
    (λ b. length (cond b (with_placed q c left) left) ≤ length left + 1)
    [ true ↦ placed | false ↦ omega arith ] in
    let same = ap length is in
    omega (arith, few', fewer, more, same)

-- what is not so is false
pub not_true : (b : Bool) → not b ≡ true → b ≡ false
not_true true h = absurd (false≢true h)
not_true false h = refl

-- one less at most
pub changed_length : (c : Change) (rows : List Row)
    → length (without_changed c rows) ≤ length rows
changed_length c [] = omega arith
changed_length c (r ∷ rows) =
    let rest = changed_length c rows in
    elim (is_changed c r) as
    (λ b. length (cond b rows (r ∷ without_changed c rows)) ≤ suc (length rows))
    [ true ↦ omega arith | false ↦ omega arith ]

-- ---- the window

-- with a limit there are the first rows of those without
limited : (q : QuerySpec) (limit : ℕ) (documents : Documents) → q.limit ≡ Some limit
    → fresh_rows q documents ≡ take limit (fresh_rows (unlimited q) documents)
unfolding fresh_rows
limited q limit documents is =
    let all = drop q.skip (sorted (stored_before q) (filter (is_due q) (values_of documents))) in
    map-cut row_of q.limit all ∙ ap (λ o. at_most o (map row_of all)) is

-- a front that suffices tells it
pub window_is : (q : QuerySpec) (limit : ℕ) (documents : Documents) (f : Front)
    → kept_limit q ≡ Some limit → IsFront q documents f → suffices limit f ≡ true
    → take limit f.rows ≡ fresh_rows q documents
window_is q limit documents f kept front enough =
    let all = fresh_rows (unlimited q) documents in
    go f.rows f.whole all front.first enough
    ∙ sym (limited q limit documents (kept_is q limit kept))
  where
    go : (rows : List Row) (whole : Bool) (all : List Row) → IsFrontOf rows whole all
        → (whole || nat_le limit (length rows)) ≡ true → take limit rows ≡ take limit all
    go rows true all first h =
        ap (take limit) (sym (append-nil rows)
        ∙ ap (λ ys. rows ++ ys) (sym (first.none_behind refl)) ∙ first.split)
    go rows false all first h =
        let le : limit ≤ length rows = grind (arith, nat_tests) in
        sym (take-append-le limit rows first.behind le) ∙ ap (take limit) first.split

-- ---- from scratch

-- the query with its own limit again
pub limit_back : (q : QuerySpec) (limit most : ℕ) → kept_limit q ≡ Some limit
    → with_limit limit (with_limit most q) ≡ q
limit_back q limit most kept =
    let is = kept_is q limit kept in
    (λ i. record {
      clauses = q.clauses;
      sorts = q.sorts;
      skip = q.skip;
      limit = sym is i;
      primary = q.primary;
    })

module _ (q : QuerySpec) (limit most : ℕ) (documents : Documents) (rows : List Row) (whole : Bool)
    (kept : kept_limit q ≡ Some limit) (le : most ≤ most_kept limit) (window : limit ≤ most)
    (is : rows ≡ fresh_rows (with_limit most q) documents)
    (whole_is : whole ≡ ltb (length rows) most)
  where
    -- the first rows, so many
    first_are : rows ≡ take most (fresh_rows (unlimited q) documents)
    first_are = is ∙ limited (with_limit most q) most documents refl

    -- are a front
    pub front_is : (let f : Front = record { rows = rows; whole = whole } in IsFront q documents f)
    front_is =
        let all = fresh_rows (unlimited q) documents in
        record {
          first = record {
            behind = drop most all;
            split = ap (λ rs. rs ++ drop most all) first_are ∙ take-append-drop most all;
            none_behind = λ h.
                let short : length rows < most = grind (arith, nat_tests) in
                let long = ap length first_are ∙ length-take most all in
                drop_all most all (omega arith);
          };
          few =
              kept_few q limit (length rows) kept
              (let long = ap length first_are
              ∙ length-take most (fresh_rows (unlimited q) documents)
              in
              omega arith);
          none = λ none. let bad : Some limit ≡ None = sym kept ∙ none in cc;
        }

    -- that suffices
    pub front_suffices :
        (let f : Front = record { rows = rows; whole = whole } in suffices limit f ≡ true)
    front_suffices =
        subst (λ w. (w || nat_le limit (length rows)) ≡ true) (sym whole_is)
        ((elim (ltb (length rows) most) as (λ b. ltb (length rows) most ≡ b
        → (b || nat_le limit (length rows)) ≡ true) [
          | true ↦ (λ h. refl)
          | false ↦ (λ h. grind (arith, nat_tests))
        ]) refl)
