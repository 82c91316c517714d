-- The table is right: for each change of one key the action gives the result on the changed
-- collection.
use Rattle.std.proofs.Common.{◌≡◌, ◌≢◌, ℕ, zero, suc, ◌<◌, ◌≤◌, inl, inr, Bool, true, false, cond, eqb, List, length, drop, filter, refl, sym, ap, ◌∙◌, arith, subst, Option, Some, None, IsSome, ltb, leb}
use Rattle.std.proofs.lemmas.Bool.{false≢true, not-false, eqb-true, ltb-false, leb-true, leb-false}
use Rattle.std.proofs.lemmas.Bool.Decides.{nat_tests}
use Rattle.std.proofs.lemmas.List.{take_all}
use Rattle.std.proofs.Common.{length-drop}
use Rattle.std.specs.List.{list_any}
use Rattle.rx_query.specs.Lists.{insert_in_order, some_passes}
use Rattle.rx_query.specs.Lists.{sorted}
use Rattle.rx_query.specs.Result.{at_most}
use Rattle.rx_actions.proofs.Changes.{table}
use Rattle.rx_actions.proofs.Actions.{after}
use Rattle.rx_query.specs.After.{removes_end, uses_existing, inserts}
use Rattle.rx_actions.proofs.Changes.{Query, result, Keys, has_key, held, others_of, IsCollection, states_at, IsLawful, IsPatch}
use Rattle.rx_table.specs.declared.action.Action.{Action}
use Rattle.rx_table.specs.declared.action.Action.TheVariants.{DoNothing, InsertFirst, InsertLast, RemoveFirstItem, RemoveLastItem, RemoveFirstInsertLast, RemoveLastInsertFirst, RemoveFirstInsertFirst, RemoveLastInsertLast, RemoveExisting, ReplaceExisting, InsertAtSortPosition, RemoveExistingAndInsertAtSortPosition, InsertAtSortPositionRemoveLast}
use Rattle.rx_actions.proofs.Windows.{put, window, length-put, length-window}
use Rattle.rx_actions.proofs.Ranks.{rank, rank-alike, placed_is, Stands}
use Rattle.rx_actions.proofs.Readings.{Others}
use Rattle.rx_actions.proofs.Edits.{none-window, any-none, first-some, last-some, first-any, last-any}
use Rattle.rx_actions.proofs.TableRows.{Leaves, Enters, Stays, EachRow, table_rows}
use Rattle.rx_actions.proofs.Leaves as Leave
use Rattle.rx_actions.proofs.Enters as Enter
use Rattle.rx_actions.proofs.Moves as Move
use Rattle.rx_actions.proofs.Collections.{stands, rest_of, others_rest, with_held, sorted_is, held_is_mine}

-- the limit as a window of suc m rows, over lists of at most one row more than the others
record Limits (X : Type 0) (limit : Option ℕ) (skip size m : ℕ) : Type 0 where
  cut_is : (xs : List X) → length xs ≤ suc size
      → at_most limit (drop skip xs) ≡ window skip (suc m) xs
  full : (xs : List X) → some_passes (λ l. leb l (length (window skip (suc m) xs))) limit ≡ true
      → length (window skip (suc m) xs) ≡ suc m
  short : (xs : List X) → length xs ≤ suc size
      → some_passes (λ l. leb l (length (window skip (suc m) xs))) limit ≡ false
      → length (window skip (suc m) xs) ≤ m
  one : some_passes (λ l. eqb l 1) limit ≡ true → m ≡ 0

-- there is such a size for each limit but 0
limits_of : (X : Type 0) (limit : Option ℕ) (skip size : ℕ) → limit ≢ Some 0
    → (m : ℕ) × Limits X limit skip size m
limits_of X None skip size some = (
  suc size,
  record {
    cut_is = λ xs h. sym (take_all (suc (suc size)) (drop skip xs)
        (omega (arith, length-drop skip xs)));
    full = λ xs e. absurd (false≢true e);
    short = λ xs h e. omega (arith, length-window skip (suc (suc size)) xs);
    one = λ e. absurd (false≢true e);
  },
)
limits_of X (Some zero) skip size some = absurd (some refl)
limits_of X (Some (suc n)) skip size some = (
  n,
  record {
    cut_is = λ xs h. refl;
    full = λ xs e. let size_is = length-window skip (suc n) xs in
        let le : suc n ≤ length (window skip (suc n) xs) =
        leb-true (suc n) (length (window skip (suc n) xs)) e in omega arith;
    short = λ xs h e. let lt : length (window skip (suc n) xs) < suc n =
        leb-false (suc n) (length (window skip (suc n) xs)) e in omega arith;
    one = λ e. let is : suc n ≡ 1 = eqb-true (suc n) 1 e in omega arith;
  },
)

-- there are no rows
empty_is : {X : Type 0} (xs : List X) → eqb (length xs) 0 ≡ true → length xs ≡ 0
empty_is xs e = eqb-true (length xs) 0 e

-- there are rows
some_is : {X : Type 0} (xs : List X) → eqb (length xs) 0 ≡ false → 0 < length xs
some_is xs e = grind (arith, nat_tests)

-- none is left out in front
no_skip : (skip : ℕ) → ltb 0 skip ≡ false → skip ≡ 0
no_skip skip e = let le = ltb-false 0 skip e in omega arith

-- the ways in which an action's rows are there
module _ {X : Type 0} {before : X → X → Bool} {mine : X → Bool} {now : Option X}
    {rows next : List X} where
  -- the action's rows are there, and it gives the result
  patch : (action : Action) → (removes_end action ≡ true → 0 < length rows)
      → (uses_existing action ≡ true → list_any mine rows ≡ true)
      → (inserts action ≡ true → IsSome now) → after before mine now action rows ≡ next
      → IsPatch before mine now rows next action
  patch action h k l e = record {
    rows_there =
        λ _. record { an_end = h; existing = k; to_insert = l };
    gives = λ _. e;
  }

-- a row is there
is_there : {X : Type 0} (x : X) → IsSome (Some x)
is_there x = refl

-- what can't be
no : {P : Type 0} → false ≡ true → P
no e = absurd (false≢true e)

module _ {X : Type 0} (q : Query X) (mine : X → Bool) (T : List X) (others : Others q.before mine T)
    (m : ℕ) (lim : Limits X q.limit q.skip (length T) m) where
  -- the window
  abbrev shown : List X → List X
  shown xs = window q.skip (suc m) xs

  -- the others with a row in its place
  abbrev among : X → List X
  among x = put (rank q.before x T) x T

  -- with one row they fit
  fits_one : (x : X) → length (among x) ≤ suc (length T)
  fits_one x = omega (arith, length-put (rank q.before x T) x T)

  -- without they do
  fits_none : length T ≤ suc (length T)
  fits_none = omega arith

  -- for a row that leaves
  leaves_rows : (now : Option X) (old : X) → Stands q.before mine old
      → Leaves (IsPatch q.before mine now (shown (among old)) (shown T))
      (states_at q mine (Some old) now (shown (among old)))
  leaves_rows now old stands = record {
    leaves_empty = λ e. patch DoNothing no no no
        (Leave.leaves_empty q.before mine T others q.skip m old stands (empty_is _ e));
    leaves_behind = λ out wa. patch DoNothing no no no
        (Leave.leaves_behind q.before mine T others q.skip m old stands out wa);
    leaves_before = λ some out nlr. patch RemoveFirstItem (λ _. some_is _ some) no no
        (Leave.leaves_before q.before mine T others q.skip m old stands out
        (lim.short _ (fits_one old) nlr) (some_is _ some));
    leaves_first = λ inside nlr first. patch RemoveFirstItem (λ _. first-some mine _ first) no no
        (Leave.leaves_first q.before mine T others q.skip m old stands inside
        (lim.short _ (fits_one old) nlr) first);
    leaves_last = λ inside nlr last. patch RemoveLastItem (λ _. last-some mine _ last) no no
        (Leave.leaves_last q.before mine T others q.skip m old stands inside
        (lim.short _ (fits_one old) nlr) last);
    leaves_within = λ inside nlr. patch RemoveExisting no (λ _. inside) no
        (Leave.leaves_within q.before mine T others q.skip m old stands inside
        (lim.short _ (fits_one old) nlr));
  }

  -- for one that enters
  enters_rows : (was : Option X) (new : X) → Stands q.before mine new
      → Enters (IsPatch q.before mine (Some new) (shown T) (shown (among new)))
      (states_at q mine was (Some new) (shown T))
  enters_rows was new stands = record {
    enters_empty = λ e nhs. patch InsertFirst no no (λ _. is_there new)
        (Enter.enters_empty q.before mine T others q.skip m new stands (empty_is _ e)
        (no_skip _ nhs));
    enters_behind = λ ia lr. patch DoNothing no no no
        (Enter.enters_behind q.before mine T others q.skip m new stands ia (lim.full _ lr));
    enters_last = λ ia nlr. patch InsertLast no no (λ _. is_there new)
        (Enter.enters_last q.before mine T others q.skip m new stands ia
        (lim.short _ fits_none nlr));
    enters_first = λ ib nhs nlr. patch InsertFirst no no (λ _. is_there new)
        (Enter.enters_first q.before mine T others q.skip m new stands ib (no_skip _ nhs)
        (lim.short _ fits_none nlr));
    enters_only = λ ib nhs lr one. patch RemoveFirstInsertFirst (λ _. first-some _ _ ib) no
        (λ _. is_there new) (Enter.enters_first_one q.before mine T others q.skip m new stands ib
        (no_skip _ nhs) (lim.one one));
    enters_full =
        λ ib nhs lr. patch RemoveLastInsertFirst (λ _. first-some _ _ ib) no (λ _. is_there new)
        (Enter.enters_first_full q.before mine T others q.skip m new stands ib (no_skip _ nhs)
        (lim.full _ lr));
    enters_between = λ some nia nib nlr. patch InsertAtSortPosition no no (λ _. is_there new)
        (Enter.enters_between q.before mine T others q.skip m new stands (some_is _ some) nia nib
        (lim.short _ fits_none nlr));
    enters_between_full = λ some nia nib lr. patch InsertAtSortPositionRemoveLast
        (λ _. some_is _ some) no (λ _. is_there new)
        (Enter.enters_between_full q.before mine T others q.skip m new stands (some_is _ some) nia
        nib (lim.full _ lr));
  }

  -- for one that stays
  stays_rows : (old new : X) → Stands q.before mine old → Stands q.before mine new
      → (q.alike new old ≡ true → rank q.before new T ≡ rank q.before old T)
      → Stays (IsPatch q.before mine (Some new) (shown (among old)) (shown (among new)))
      (states_at q mine (Some old) (Some new) (shown (among old)))
  stays_rows old new old_stands new_stands alike = record {
    stays_empty = λ e. patch DoNothing no no no
        (Move.moves_empty q.before mine T others q.skip m old old_stands new new_stands
        (empty_is _ e));
    stays_last = λ nsc last. patch RemoveLastInsertLast (λ _. last-some mine _ last) no
        (λ _. is_there new) (Move.stays_last q.before mine T others q.skip m old old_stands new
        new_stands (alike (not-false _ nsc)) last (last-any mine _ last));
    stays_first = λ nsc first. patch RemoveFirstInsertFirst (λ _. first-some mine _ first) no
        (λ _. is_there new) (Move.stays_first q.before mine T others q.skip m old old_stands new
        new_stands (alike (not-false _ nsc)) first (first-any mine _ first));
    stays_within = λ nsc inside. patch ReplaceExisting no (λ _. inside) (λ _. is_there new)
        (Move.stays_within q.before mine T others q.skip m old old_stands new new_stands
        (alike (not-false _ nsc)) inside);
    stays_outside = λ nsc out. patch DoNothing no no no
        (Move.stays_outside q.before mine T others q.skip m old old_stands new new_stands
        (alike (not-false _ nsc)) out);
    moves_within = λ inside start end. patch RemoveExistingAndInsertAtSortPosition no (λ _. inside)
        (λ _. is_there new)
        (Move.moves_within q.before mine T others q.skip m old old_stands new new_stands inside
        (elim start [ inl nhs ↦ inl (no_skip _ nhs) | inr nib ↦ inr nib ])
        (elim end [ inl nlr ↦ inl (lim.short _ (fits_one old) nlr) | inr nia ↦ inr nia ]));
    stays_before = λ out wb ib. patch DoNothing no no no
        (Move.stays_before q.before mine T others q.skip m old old_stands new new_stands out wb ib);
    stays_behind = λ out wa ia. patch DoNothing no no no
        (Move.stays_behind q.before mine T others q.skip m old old_stands new new_stands out wa ia);
    moves_to_last = λ out wb ia nlr. patch RemoveFirstInsertLast (λ _. first-some _ _ wb) no
        (λ _. is_there new) (Move.moves_to_last q.before mine T others q.skip m old old_stands new
        new_stands out wb ia (lim.short _ (fits_one old) nlr));
    moves_to_only = λ out wa ib nhs one. patch RemoveFirstInsertFirst (λ _. first-some _ _ ib) no
        (λ _. is_there new) (Move.moves_to_only q.before mine T others q.skip m old old_stands new
        new_stands out ib (no_skip _ nhs) (lim.one one));
    moves_to_first = λ out wa ib nhs. patch RemoveLastInsertFirst (λ _. first-some _ _ ib) no
        (λ _. is_there new) (Move.moves_to_first q.before mine T others q.skip m old old_stands new
        new_stands out ib (no_skip _ nhs));
    moves_inside = λ out wa nib nia. patch InsertAtSortPositionRemoveLast
        (λ _. last-some _ _ wa) no (λ _. is_there new)
        (Move.moves_inside q.before mine T others q.skip m old old_stands new new_stands out wa nib
        nia);
  }

-- the place of a row whose sort fields stay
same_place : {X K : Type 0} (keys : Keys X K) (q : Query X) → IsLawful keys q
    → (k : K) (old new : X) → has_key keys k old ≡ true → has_key keys k new ≡ true → (T : List X)
    → q.alike new old ≡ true → rank q.before new T ≡ rank q.before old T
same_place keys q law k old new is_old is_new T e =
    rank-alike q.before new old (λ z. law.alike_before new old z e
    (law.same_eq (keys.key new) k is_new ∙ sym (law.same_eq (keys.key old) k is_old))) T

-- where the row of the key matches, it stands among the others
with_held_is : {X K : Type 0} (keys : Keys X K) (q : Query X) (law : IsLawful keys q) (k : K)
    (x : X) (T : List X) → q.matches x ≡ true
    → with_held keys q law k (Some x) T ≡ put (rank q.before x T) x T
with_held_is keys q law k x T e = rw e (placed_is q.before x T)

-- where it doesn't, the others stand alone
with_held_isnt : {X K : Type 0} (keys : Keys X K) (q : Query X) (law : IsLawful keys q) (k : K)
    (o : Option X) (T : List X) → some_passes q.matches o ≡ false → with_held keys q law k o T ≡ T
with_held_isnt keys q law k None T e = refl
with_held_isnt keys q law k (Some x) T e = rw e refl

module _ {X K : Type 0} (keys : Keys X K) (q : Query X) (law : IsLawful keys q) (k : K) (T : List X)
    (others : Others q.before (has_key keys k) T) (m : ℕ)
    (lim : Limits X q.limit q.skip (length T) m) where
  -- the rows, by the document of the key
  abbrev rows_of : Option X → List X
  rows_of o = window q.skip (suc m) (with_held keys q law k o T)

  -- the document has the key
  abbrev mine : X → Bool
  mine = has_key keys k

  -- the window
  abbrev win : List X → List X
  win xs = window q.skip (suc m) xs

  -- for a document that leaves
  leaves_at : (was now : Option X) → ((x : X) → was ≡ Some x → mine x ≡ true)
      → some_passes q.matches was ≡ true → some_passes q.matches now ≡ false
      → Leaves (IsPatch q.before mine now (rows_of was) (rows_of now))
      (states_at q mine was now (rows_of was))
  leaves_at None now was_mine e f = absurd (false≢true e)
  leaves_at (Some old) now was_mine e f =
      subst (λ a. Leaves (IsPatch q.before mine now (win a) (rows_of now))
      (states_at q mine (Some old) now (win a))) (sym (with_held_is keys q law k old T e))
      (subst (λ b. Leaves (IsPatch q.before mine now (win (put (rank q.before old T) old T))
      (win b)) (states_at q mine (Some old) now (win (put (rank q.before old T) old T))))
      (sym (with_held_isnt keys q law k now T f))
      (leaves_rows q mine T others m lim now old (stands keys q law k old (was_mine old refl))))

  -- for one that enters
  enters_at : (was now : Option X) → ((x : X) → now ≡ Some x → mine x ≡ true)
      → some_passes q.matches was ≡ false → some_passes q.matches now ≡ true
      → Enters (IsPatch q.before mine now (rows_of was) (rows_of now))
      (states_at q mine was now (rows_of was))
  enters_at was None now_mine e f = absurd (false≢true f)
  enters_at was (Some new) now_mine e f =
      subst (λ a. Enters (IsPatch q.before mine (Some new) (win a) (rows_of (Some new)))
      (states_at q mine was (Some new) (win a))) (sym (with_held_isnt keys q law k was T e))
      (subst (λ b. Enters (IsPatch q.before mine (Some new) (win T) (win b))
      (states_at q mine was (Some new) (win T))) (sym (with_held_is keys q law k new T f))
      (enters_rows q mine T others m lim was new (stands keys q law k new (now_mine new refl))))

  -- for one that stays
  stays_at : (was now : Option X) → ((x : X) → was ≡ Some x → mine x ≡ true)
      → ((x : X) → now ≡ Some x → mine x ≡ true) → some_passes q.matches was ≡ true
      → some_passes q.matches now ≡ true
      → Stays (IsPatch q.before mine now (rows_of was) (rows_of now))
      (states_at q mine was now (rows_of was))
  stays_at None now was_mine now_mine e f = absurd (false≢true e)
  stays_at (Some old) None was_mine now_mine e f = absurd (false≢true f)
  stays_at (Some old) (Some new) was_mine now_mine e f =
      subst (λ a. Stays (IsPatch q.before mine (Some new) (win a) (rows_of (Some new)))
      (states_at q mine (Some old) (Some new) (win a)))
      (sym (with_held_is keys q law k old T e))
      (subst (λ b. Stays (IsPatch q.before mine (Some new) (win (put (rank q.before old T) old T))
      (win b)) (states_at q mine (Some old) (Some new) (win (put (rank q.before old T) old T))))
      (sym (with_held_is keys q law k new T f))
      (stays_rows q mine T others m lim old new (stands keys q law k old (was_mine old refl))
      (stands keys q law k new (now_mine new refl))
      (same_place keys q law k old new (was_mine old refl) (now_mine new refl) T)))

  -- the two results, where the row of the key was and is now as the options say
  patched : (was now : Option X) → ((x : X) → was ≡ Some x → mine x ≡ true)
      → ((x : X) → now ≡ Some x → mine x ≡ true)
      → EachRow (IsPatch q.before mine now (rows_of was) (rows_of now))
      (states_at q mine was now (rows_of was))
  patched was now was_mine now_mine = record {
    full = record { rows_there = λ h. absurd (h refl); gives = λ h. absurd (h refl) };
    neither = λ e f. patch DoNothing no no no
        (ap win (with_held_isnt keys q law k was T e ∙ sym (with_held_isnt keys q law k now T f)));
    leaves = λ e f. leaves_at was now was_mine e f;
    enters = λ e f. enters_at was now now_mine e f;
    stays = λ e f. stays_at was now was_mine now_mine e f;
  }

-- they are at most one more
length-with_held : {X K : Type 0} (keys : Keys X K) (q : Query X) (law : IsLawful keys q) (k : K)
    (o : Option X) (T : List X) → length (with_held keys q law k o T) ≤ suc (length T)
length-with_held keys q law k None T = omega arith
length-with_held keys q law k (Some x) T =
    elim (q.matches x) as (λ b. length (cond b (insert_in_order q.before x T) T) ≤ suc (length T)) [
      | true ↦ omega (arith, ap length (placed_is q.before x T), length-put (rank q.before x T) x T)
      | false ↦ omega arith
    ]

-- the table is right for rows of any kind: the collections differ at one key alone
pub table_is_right : {X K : Type 0} (keys : Keys X K) (q : Query X) → IsLawful keys q
    → (k : K) (was now : Option X) (docs docs' : List X) → IsCollection keys docs
    → IsCollection keys docs'
    → others_of (has_key keys k) docs ≡ others_of (has_key keys k) docs'
    → was ≡ held (has_key keys k) docs → now ≡ held (has_key keys k) docs'
    → IsPatch q.before (has_key keys k) now (result q docs) (result q docs')
    (table (states_at q (has_key keys k) was now (result q docs)))
table_is_right {X} {K} keys q law k was now docs docs' c c' same e f =
    let T = rest_of keys q law k docs in
    let lim = limits_of X q.limit q.skip (length T) law.limited in
    let old_is : result q docs ≡ window q.skip (suc lim.0) (with_held keys q law k was T) =
    ap (λ xs. at_most q.limit (drop q.skip xs))
    (sorted_is keys q law k docs c ∙ ap (λ o. with_held keys q law k o T) (sym e))
    ∙ lim.1.cut_is (with_held keys q law k was T) (length-with_held keys q law k was T) in
    let new_is : result q docs' ≡ window q.skip (suc lim.0) (with_held keys q law k now T) =
    ap (λ xs. at_most q.limit (drop q.skip xs))
    (sorted_is keys q law k docs' c' ∙ ap
    (λ o. with_held keys q law k o (rest_of keys q law k docs')) (sym f)
    ∙ ap (λ ds. with_held keys q law k now (sorted q.before (filter q.matches ds))) (sym same))
    ∙ lim.1.cut_is (with_held keys q law k now T) (length-with_held keys q law k now T) in
    subst (λ a. IsPatch q.before (has_key keys k) now a (result q docs')
    (table (states_at q (has_key keys k) was now a))) (sym old_is)
    (subst (λ b. IsPatch q.before (has_key keys k) now
    (window q.skip (suc lim.0) (with_held keys q law k was T)) b
    (table (states_at q (has_key keys k) was now
    (window q.skip (suc lim.0) (with_held keys q law k was T))))) (sym new_is)
    (table_rows _ _ (patched keys q law k T (others_rest keys q law k docs c) lim.0 lim.1 was now
    (λ x is. held_is_mine keys q law k docs x (sym e ∙ is))
    (λ x is. held_is_mine keys q law k docs' x (sym f ∙ is)))))

-- the document of the key is one of the rows only where it matches
pub inside_matches : {X K : Type 0} (keys : Keys X K) (q : Query X) → IsLawful keys q
    → (k : K) (was : Option X) (docs : List X) → IsCollection keys docs
    → was ≡ held (has_key keys k) docs → list_any (has_key keys k) (result q docs) ≡ true
    → some_passes q.matches was ≡ true
inside_matches {X} {K} keys q law k was docs c e inside = go (some_passes q.matches was) refl
  where
    go : (b : Bool) → some_passes q.matches was ≡ b → b ≡ true
    go true is = refl
    go false is =
        let T = rest_of keys q law k docs in
        let mine = has_key keys k in
        let lim = limits_of X q.limit q.skip (length T) law.limited in
        let rows_are : result q docs ≡ window q.skip (suc lim.0) T =
        ap (λ xs. at_most q.limit (drop q.skip xs))
        (sorted_is keys q law k docs c ∙ ap (λ o. with_held keys q law k o T) (sym e)
        ∙ with_held_isnt keys q law k was T is)
        ∙ lim.1.cut_is T (omega arith) in
        let none : list_any mine (window q.skip (suc lim.0) T) ≡ false =
        any-none mine (window q.skip (suc lim.0) T)
        (none-window mine q.skip (suc lim.0) T (others_rest keys q law k docs c).none) in
        no (sym none ∙ ap (list_any mine) (sym rows_are) ∙ inside)
