-- A walk along an index gives the query's result.
use Rattle.std.proofs.Common.{◌≡◌, inl, inr, ℕ, zero, suc, ◌+◌, ◌<◌, ◌≤◌, IfSome, get_or, slice_get, true, false, cond, ◌||◌, List, [], ◌∷◌, ◌++◌, map, filter, take, drop, length, Option, Some, None, option_map, Less, Equal, refl, sym, ap, ◌∙◌, subst, arith}
use Rattle.std.proofs.lemmas.Bool.{false≢true}
use Rattle.std.proofs.lemmas.Cmp.{nat_list_eq_equiv}
use Rattle.std.proofs.lemmas.List.{append-nil, drop-take, take_all, drop_all, length-map}
use Rattle.std.proofs.lemmas.Option.{slice_get_read}
use Rattle.std.proofs.lemmas.List.Kept.{IsStrictlySortedBy-filter}
use Rattle.std.proofs.lemmas.List.Sorted.{IsPermutation-sym, IsPermutation-append_left, length_permutation}
use Rattle.std.proofs.lemmas.Slice.Eq.{bytes_eq-Decides}
use Rattle.std.specs.Cmp.{Equal-is}
use Rattle.std.specs.List.{AllByRecursion, IsDistinct, filter_map, cons_option}
use Rattle.std.specs.List.Sorted.{IsStrictlySortedBy, IsPermutation}
use Rattle.std.specs.Map.{keys_of, values_of}
use Rattle.std.specs.Ordering.{is_eq, eq_by_cmp}
use Rattle.std.specs.Str.{bytes_eq}
use Rattle.rx_value.specs.Named.{named, AreRising}
use Rattle.rx_value.specs.Order.{text_cmp}
use Rattle.rx_value.specs.declared.value.Value.TheVariants.{Text}
use Rattle.rx_document.specs.Documents.{Documents}
use Rattle.rx_document.specs.declared.stored.Stored.{Stored}
use Rattle.rx_query.proofs.Orders.{keys_decide}
use Rattle.rx_query.proofs.Rows.{one_result, are_keyed, other_key}
use Rattle.rx_query.proofs.Sorting.{In, in-permutation, sorted-permutes, ordered-sorted, same_members}
use Rattle.rx_query.specs.QuerySpec.{QuerySpec}
use Rattle.rx_query.specs.Lists.{sorted}
use Rattle.rx_query.specs.Result.{is_due, stored_cmp, stored_before, at_most, result_of, IsCollection}
use Rattle.rx_index.proofs.Positions.{position_eq-Decides, id_of-key_of, itself}
use Rattle.rx_index.specs.Index.{Indexed, indexed_by, has_key, is_key_of, HoldsWhere, is_between, ids_between}
use Rattle.rx_index.specs.Position.{Position, position_cmp, key_of, id_of}
use Rattle.rx_planner.specs.Plan.{Names, path_of, path_at, bound_of, is_ordered, IsPlan}
use Rattle.rx_planner.specs.Rows.{if_due, due_among, most_rows, IsFull}
use Rattle.rx_planner.specs.declared.planned.Plan.{Plan}
use Rattle.rx_planner.proofs.Best.{path_read}
use Rattle.rx_planner.proofs.Lists.{cut_front}
use Rattle.rx_planner.proofs.Members.{distinct_front, in_filter, from_filter, in_filter_map, from_filter_map, filter_map-map, Pairwise, pairwise_strict, strict_pairwise, distinct_pairwise, becomes}
use Rattle.rx_planner.proofs.Ordered.{keys_in_order}
use Rattle.rx_planner.proofs.Rising.{stored_total, differ, differ_moved, sorted_alike}
use Rattle.rx_planner.proofs.Selected.{due_between}

-- ---- documents by their keys

pub named_in : {X : Type 0} (es : List (List ℕ × X)) (k : List ℕ) (x : X) → named es k ≡ Some x
    → In x (values_of es)
named_in [] k x at = absurd (cc)
named_in (e ∷ es) k x at =
    (elim (bytes_eq k e.0) as
    (λ b. cond b (Some e.1) (named es k) ≡ Some x → In x (values_of (e ∷ es))) [
      | true ↦ (λ h. inl (let same : e.1 ≡ x = cc in sym same))
      | false ↦ (λ h. inr (named_in es k x h))
    ]) at

-- the keys of later ones are above a lower key
key_above : (k : List ℕ) (es : Documents) → AllByRecursion (λ l. text_cmp k l ≡ Less) (keys_of es)
    → AllByRecursion (λ e. e.1.state.key ≡ e.0) es → (z : Stored) → In z (values_of es)
    → text_cmp k z.state.key ≡ Less
key_above k [] up keyed z i = absurd i
key_above k (e ∷ es) up keyed z (inl is) =
    ap (λ d. text_cmp k d.state.key) is ∙ ap (text_cmp k) keyed.0 ∙ up.0
key_above k (e ∷ es) up keyed z (inr i) = key_above k es up.1 keyed.1 z i

pub in_named : (es : Documents) → AreRising es → AllByRecursion (λ e. e.1.state.key ≡ e.0) es
    → (z : Stored) → In z (values_of es) → named es z.state.key ≡ Some z
unfolding IsStrictlySortedBy
in_named [] up keyed z i = absurd i
in_named (e ∷ es) up keyed z (inl is) =
    let same : z.state.key ≡ e.0 = ap (λ d. d.state.key) is ∙ keyed.0 in
    ap (λ b. cond b (Some e.1) (named es z.state.key)) ((bytes_eq-Decides z.state.key e.0).1 same)
    ∙ ap Some (sym is)
in_named (e ∷ es) up keyed z (inr i) =
    ap (λ b. cond b (Some e.1) (named es z.state.key))
    (nat_list_eq_equiv.symm z.state.key e.0
    ∙ other_key e.0 z.state.key (key_above e.0 es up.0 keyed.1 z i))
    ∙ in_named es up.1 keyed.1 z i

pub carried_in : (primary : List ℕ) (es : Documents)
    → AllByRecursion (λ e. named e.1.state.fields primary ≡ Some (Text e.1.state.key)) es
    → (z : Stored) → In z (values_of es) → named z.state.fields primary ≡ Some (Text z.state.key)
carried_in primary [] all z i = absurd i
carried_in primary (e ∷ es) all z (inl is) =
    subst (λ d. named d.state.fields primary ≡ Some (Text d.state.key)) (sym is) all.0
carried_in primary (e ∷ es) all z (inr i) = carried_in primary es all.1 z i

-- a document that is due is what was named
due_named : (q : QuerySpec) (o : Option Stored) (d : Stored) → if_due q o ≡ Some d
    → (o ≡ Some d) × (is_due q d ≡ true)
due_named q None d h = absurd (cc)
due_named q (Some e) d h =
    (elim (is_due q e) as (λ b. is_due q e ≡ b → cond b (Some e) None ≡ Some d
    → (Some e ≡ Some d) × (is_due q d ≡ true)) [
      | true ↦ (λ is at. (at, (let same : e ≡ d = cc in ap (is_due q) (sym same)) ∙ is))
      | false ↦ (λ is at. absurd (cc))
    ]) refl h

pub due_is : (q : QuerySpec) (o : Option Stored) (d : Stored) → o ≡ Some d → is_due q d ≡ true
    → if_due q o ≡ Some d
due_is q o d is h = ap (if_due q) is ∙ ap (λ b. cond b (Some d) None) h

-- a key among keys
pub has_in : (keys : List Position) (k : Position) → In k keys → has_key keys k ≡ true
has_in [] k i = absurd i
has_in (x ∷ xs) k i =
    (elim (is_eq (position_cmp k x)) as (λ b. is_eq (position_cmp k x) ≡ b
    → (b || has_key xs k) ≡ true) [
      | true ↦ (λ _. refl)
      | false ↦ (λ e. elim i [
        | inl is ↦ absurd (false≢true (sym e ∙ (position_eq-Decides k x).1 is))
        | inr j ↦ has_in xs k j
      ])
    ]) refl

pub in_has : (keys : List Position) (k : Position) → has_key keys k ≡ true → In k keys
in_has [] k h = absurd (false≢true h)
in_has (x ∷ xs) k h =
    (elim (is_eq (position_cmp k x)) as (λ b. is_eq (position_cmp k x) ≡ b
    → (b || has_key xs k) ≡ true → In k (x ∷ xs)) [
      | true ↦ (λ e _. inl ((position_eq-Decides k x).0 e))
      | false ↦ (λ e rest. inr (in_has xs k rest))
    ]) refl h

-- ---- what a walk meets

-- the keys of due documents that carry their primary keys stand between the bounds
abbrev pub Encloses : QuerySpec → Names → Position → Position → Type 0
Encloses q fields low high = (d : Stored) → is_due q d ≡ true
    → named d.state.fields q.primary ≡ Some (Text d.state.key)
    → is_between low high (key_of fields d) ≡ true

module _ (q : QuerySpec) (documents : Documents) (fields : Names) (keys : List Position)
    (low high : Position) (collection : IsCollection q.primary documents)
    (up : IsStrictlySortedBy position_cmp keys)
    (held : HoldsWhere (is_between low high) (indexed_by fields keys) documents) where
  abbrev pub between : List Position
  between = filter (is_between low high) keys

  -- the due document of a key
  abbrev at_key : Position → Option Stored
  at_key k = if_due q (named documents (id_of k))

  -- the due documents in the index's order
  abbrev pub met : List Stored
  met = due_among q documents (ids_between low high keys)

  met_is : met ≡ filter_map at_key between
  met_is = filter_map-map (λ id. if_due q (named documents id)) id_of between

  -- a key is that of its document
  pub keyed_so : (k : Position) (d : Stored) → In k between → named documents (id_of k) ≡ Some d
      → key_of fields d ≡ k
  keyed_so k d i at =
      let there = from_filter (is_between low high) keys k i in
      let is : is_eq (position_cmp (key_of fields d) k) ≡ true =
      ap (λ o. is_key_of fields o k) (sym at) ∙ sym (held k there.1) ∙ has_in keys k there.0 in
      (position_eq-Decides (key_of fields d) k).0 is

  -- documents carry their keys
  pub carried : (d : Stored) (id : List ℕ) → named documents id ≡ Some d
      → named d.state.fields q.primary ≡ Some (Text d.state.key)
  carried d id at =
      carried_in q.primary documents collection.carried d (named_in documents id d at)

  -- ---- the same members

  abbrev pub all_due : List Stored
  all_due = filter (is_due q) (values_of documents)

  pub met_due : (z : Stored) → In z met → In z all_due
  met_due z i =
      let r = from_filter_map at_key between z (subst (In z) met_is i) in
      let is = due_named q (named documents (id_of r.0)) z r.2 in
      in_filter (is_due q) (values_of documents) z (named_in documents (id_of r.0) z is.0) is.1

  pub met_between : (z : Stored) → In z met → is_between low high (key_of fields z) ≡ true
  met_between z i =
      let r = from_filter_map at_key between z (subst (In z) met_is i) in
      let is = due_named q (named documents (id_of r.0)) z r.2 in
      ap (is_between low high) (keyed_so r.0 z r.1 is.0)
      ∙ (from_filter (is_between low high) keys r.0 r.1).1

  pub between_met : (z : Stored) → In z all_due → is_between low high (key_of fields z) ≡ true
      → In z met
  between_met z i stands =
      let r = from_filter (is_due q) (values_of documents) z i in
      let at = in_named documents collection.rising collection.keyed z r.0 in
      let k = key_of fields z in
      let here : named documents (id_of k) ≡ Some z = ap (named documents) (id_of-key_of fields z)
      ∙ at in
      let has : has_key keys k ≡ true =
      held k stands ∙ ap (λ o. is_key_of fields o k) here ∙ ap is_eq (itself k) in
      subst (In z) (sym met_is)
      (in_filter_map at_key between k z
      (in_filter (is_between low high) keys k (in_has keys k has) stands)
      (due_is q (named documents (id_of k)) z here r.1))

  -- ---- the documents that are met don't tie

  untied : (k l : Position) (d e : Stored) → In k between → In l between
      → position_cmp k l ≡ Less → at_key k ≡ Some d → at_key l ≡ Some e
      → eq_by_cmp (stored_cmp q) d e ≡ false
  untied k l d e i j below is_d is_e =
      let at_d = (due_named q (named documents (id_of k)) d is_d).0 in
      let at_e = (due_named q (named documents (id_of l)) e is_e).0 in
      let here_d = keyed_so k d i at_d in
      let here_e = keyed_so l e j at_e in
      (elim (eq_by_cmp (stored_cmp q) d e) as (λ b. eq_by_cmp (stored_cmp q) d e ≡ b → b ≡ false) [
        | false ↦ (λ _. refl)
        | true ↦ (λ tie. absurd (keys_decide q d.state.fields e.state.fields d.state.key e.state.key
            (carried d (id_of k) at_d) (carried e (id_of l) at_e)
            (λ same.
            let id_d : id_of k ≡ d.state.key = ap id_of (sym here_d) ∙ id_of-key_of fields d in
            let id_e : id_of l ≡ e.state.key = ap id_of (sym here_e) ∙ id_of-key_of fields e in
            let one : Some d ≡ Some e =
            sym at_d ∙ ap (named documents) (id_d ∙ same ∙ sym id_e) ∙ at_e in
            let docs : d ≡ e = cc in
            let level : position_cmp k l ≡ Equal =
            ap (λ p. position_cmp p l) (sym here_d ∙ ap (key_of fields) docs ∙ here_e) ∙ itself l in
            let bad : Less ≡ Equal = sym below ∙ level in cc)
            ((Equal-is (stored_cmp q d e)).0 tie)))
      ]) refl

  keys_up : Pairwise (λ k l. position_cmp k l ≡ Less) between
  keys_up =
      pairwise_strict position_cmp between
      (IsStrictlySortedBy-filter position_cmp (is_between low high) keys up)

  pub met_distinct : IsDistinct (eq_by_cmp (stored_cmp q)) met
  met_distinct =
      subst (IsDistinct (eq_by_cmp (stored_cmp q))) (sym met_is)
      (distinct_pairwise (eq_by_cmp (stored_cmp q)) (filter_map at_key between)
      (becomes (λ k l. position_cmp k l ≡ Less) (λ d e. eq_by_cmp (stored_cmp q) d e ≡ false) at_key
      between untied keys_up))

  -- ---- the rows in order

  abbrev pub in_order : List Stored
  in_order = sorted (stored_before q) all_due

  pub strict_order : IsStrictlySortedBy (stored_cmp q) in_order
  strict_order =
      let plain : QuerySpec = record q { skip = 0; limit = None } in
      let r = (one_result plain (values_of documents)
      (are_keyed q.primary documents collection)).is_result in
      subst (IsStrictlySortedBy (stored_cmp q)) (sym r.window) r.in_order

  pub order_due : (z : Stored) → In z in_order → In z all_due
  order_due z =
      in-permutation in_order all_due z
      (IsPermutation-sym all_due in_order (sorted-permutes (stored_before q) all_due))

  pub due_order : (z : Stored) → In z all_due → In z in_order
  due_order z = in-permutation all_due in_order z (sorted-permutes (stored_before q) all_due)

  -- ---- where the bounds leave no due document out

  module _ (encloses : Encloses q fields low high) where
    due_met : (z : Stored) → In z all_due → In z met
    due_met z i =
        let r = from_filter (is_due q) (values_of documents) z i in
        between_met z i
        (encloses z r.1 (carried_in q.primary documents collection.carried z r.0))

    -- where the plan is ordered, they are met so
    pub met_ordered : is_ordered q (path_of q fields) ≡ true → met ≡ in_order
    met_ordered ordered =
        same_members (stored_cmp q) (stored_total q) met in_order
        (subst (IsStrictlySortedBy (stored_cmp q)) (sym met_is)
        (strict_pairwise (stored_cmp q) (filter_map at_key between)
        (becomes (λ k l. position_cmp k l ≡ Less) (λ d e. stored_cmp q d e ≡ Less) at_key between
        (λ k l d e i j below is_d is_e.
        let r_d = due_named q (named documents (id_of k)) d is_d in
        let r_e = due_named q (named documents (id_of l)) e is_e in
        keys_in_order q fields d e ordered r_d.1 r_e.1 (carried d (id_of k) r_d.0)
        (carried e (id_of l) r_e.0)
        (ap (λ p. position_cmp p (key_of fields e)) (keyed_so k d i r_d.0)
        ∙ ap (position_cmp k) (keyed_so l e j r_e.0) ∙ below))
        keys_up)))
        strict_order (λ z i. due_order z (met_due z i)) (λ z i. due_met z (order_due z i))

    -- else they are so once they are sorted
    pub met_sorted : sorted (stored_before q) met ≡ in_order
    met_sorted =
        let all = sorted (stored_before q) met in
        let moved = sorted-permutes (stored_before q) met in
        same_members (stored_cmp q) (stored_total q) all in_order
        (ordered-sorted (stored_cmp q) (stored_total q) met met_distinct) strict_order
        (λ z i. due_order z
        (met_due z (in-permutation all met z (IsPermutation-sym met all moved) i)))
        (λ z i. in-permutation met all z moved (due_met z (order_due z i)))

-- ---- the window

-- what is wanted, without what is skipped
pub window : (q : QuerySpec) (rows : List Stored)
    → drop q.skip (at_most (most_rows q) rows) ≡ at_most q.limit (drop q.skip rows)
window q rows =
    elim q.limit as (λ o. drop q.skip (at_most (option_map (λ limit. q.skip + limit) o) rows)
    ≡ at_most o (drop q.skip rows))
    [ None ↦ refl | Some limit ↦ drop-take q.skip limit rows ]

-- so many first ones are those that are wanted
pub wanted : (most : Option ℕ) (n : ℕ) (ids : List (List ℕ)) (rows : List Stored)
    → IsFull most n ids → (ids ≡ [] → length rows ≡ n) → take n rows ≡ at_most most rows
wanted None n ids rows full long =
    let h : length rows ≡ n = long full in take_all n rows (omega (arith, h))
wanted (Some m) n ids rows (inl is) long = ap (λ k. take k rows) is
wanted (Some m) n ids rows (inr h) long =
    let l : length rows ≡ n = long h.1 in
    let le : n ≤ m = h.0 in
    take_all n rows (omega (arith, l)) ∙ sym (take_all m rows (omega (arith, l, le)))

module _ (q : QuerySpec) (documents : Documents) (fields : Names) (keys : List Position)
    (low high : Position) (collection : IsCollection q.primary documents)
    (up : IsStrictlySortedBy position_cmp keys)
    (held : HoldsWhere (is_between low high) (indexed_by fields keys) documents)
    (encloses : Encloses q fields low high) where
  -- of an ordered plan the first ones that are met
  pub run_ordered : (rows : List Stored) (ids : List (List ℕ))
      → rows ++ due_among q documents ids ≡ due_among q documents (ids_between low high keys)
      → IsFull (most_rows q) (length rows) ids → is_ordered q (path_of q fields) ≡ true
      → drop q.skip rows ≡ result_of q (values_of documents)
  run_ordered rows ids parts full ordered =
      ap (drop q.skip)
      (cut_front (most_rows q) rows (due_among q documents ids) ids full
      (λ e. ap (due_among q documents) e)
      ∙ ap (at_most (most_rows q)) (parts
      ∙ met_ordered q documents fields keys low high collection up held encloses ordered))
      ∙ window q (sorted (stored_before q) (filter (is_due q) (values_of documents)))

  -- some in order, and the others
  pub apart_so : (rows first : List Stored) (ids : List (List ℕ))
      → rows ++ due_among q documents ids ≡ due_among q documents (ids_between low high keys)
      → first ≡ sorted (stored_before q) rows → differ q (first ++ due_among q documents ids)
  apart_so rows first ids parts first_is =
      let back = due_among q documents ids in
      subst (λ xs. differ q (xs ++ back)) (sym first_is)
      (differ_moved q (rows ++ back) (sorted (stored_before q) rows ++ back)
      (IsPermutation-append_left back rows (sorted (stored_before q) rows)
      (sorted-permutes (stored_before q) rows))
      (subst (differ q) (sym parts)
      (met_distinct q documents fields keys low high collection up held)))

  -- else of some in order and the others as many first ones
  pub run_sorted : (rows first last : List Stored) (ids : List (List ℕ))
      → rows ++ due_among q documents ids ≡ due_among q documents (ids_between low high keys)
      → IsFull (most_rows q) (length rows) ids → first ≡ sorted (stored_before q) rows
      → last ≡ take (length first) (sorted (stored_before q) (first ++ due_among q documents ids))
      → drop q.skip last ≡ result_of q (values_of documents)
  run_sorted rows first last ids parts full first_is last_is =
      let all = sorted (stored_before q) (filter (is_due q) (values_of documents)) in
      let back = due_among q documents ids in
      let moved : IsPermutation (rows ++ back) (sorted (stored_before q) rows ++ back) =
      IsPermutation-append_left back rows (sorted (stored_before q) rows)
      (sorted-permutes (stored_before q) rows) in
      let apart : differ q (rows ++ back) =
      subst (differ q) (sym parts)
      (met_distinct q documents fields keys low high collection up held) in
      let as_many : length first ≡ length rows =
      ap length first_is ∙ length_permutation rows (sorted (stored_before q) rows)
      (sorted-permutes (stored_before q) rows) in
      let together : sorted (stored_before q) (rows ++ back) ≡ all =
      ap (sorted (stored_before q)) parts
      ∙ met_sorted q documents fields keys low high collection up held encloses in
      let whole : sorted (stored_before q) (first ++ back) ≡ all =
      ap (λ xs. sorted (stored_before q) (xs ++ back)) first_is
      ∙ sym (sorted_alike q (rows ++ back) (sorted (stored_before q) rows ++ back) moved apart)
      ∙ together in
      let long : ids ≡ [] → length all ≡ length rows =
      λ e. ap length (sym together)
      ∙ length_permutation (rows ++ back) (sorted (stored_before q) (rows ++ back))
      (sorted-permutes (stored_before q) (rows ++ back))
      ∙ ap (λ xs. length (rows ++ due_among q documents xs)) e ∙ ap length (append-nil rows) in
      ap (drop q.skip)
      (last_is ∙ ap (λ n. take n (sorted (stored_before q) (first ++ back))) as_many
      ∙ ap (take (length rows)) whole
      ∙ wanted (most_rows q) (length rows) ids all full long)
      ∙ window q all

-- ---- few rows

length_cut : {X : Type 0} (n : ℕ) (xs : List X) → length (take n xs) ≤ n
length_cut zero xs = omega arith
length_cut (suc n) [] = omega arith
length_cut (suc n) (x ∷ xs) = let rest = length_cut n xs in omega (arith, rest)

length_given : {X Y : Type 0} (h : X → Option Y) (xs : List X)
    → length (filter_map h xs) ≤ length xs
length_given h [] = omega arith
length_given h (x ∷ xs) =
    let rest = length_given h xs in
    elim (h x) as (λ o. length (cons_option o (filter_map h xs)) ≤ suc (length xs))
    [ None ↦ omega (arith, rest) | Some y ↦ omega (arith, rest) ]

-- all of no more than are skipped
at_most_full : (limit : Option ℕ) (skip n : ℕ) → n ≤ skip
    → IsFull (option_map (λ limit. skip + limit) limit) n []
at_most_full None skip n few = refl
at_most_full (Some limit) skip n few = inr (omega (arith, few), refl)

-- ---- by a plan

module _ (q : QuerySpec) (documents : Documents) (indexes : List Indexed) (plan : Plan)
    (i : Indexed)
    (is : i ≡ get_or indexes plan.index i) (planned : IsPlan q (map (λ k. k.fields) indexes) plan)
    (collection : IsCollection q.primary documents)
    (held : IfSome (slice_get indexes plan.index)
    (λ k. HoldsWhere (is_between plan.low plan.high) k documents))
    (up : IsStrictlySortedBy position_cmp i.keys) where
  within : plan.index < length indexes
  within =
      subst (λ n. plan.index < n) (length-map indexes (λ (k : Indexed). k.fields)) planned.within

  pub held_there : HoldsWhere (is_between plan.low plan.high) i documents
  held_there =
      subst (λ o. IfSome o (λ k. HoldsWhere (is_between plan.low plan.high) k documents))
      (slice_get_read indexes (length indexes) plan.index i refl within is) held

  path : path_at q (map (λ k. k.fields) indexes) plan.index ≡ path_of q i.fields
  path = path_read q indexes plan.index i is within

  pub low_is : plan.low ≡ bound_of q false (path_of q i.fields)
  low_is = planned.low ∙ ap (bound_of q false) path

  pub high_is : plan.high ≡ bound_of q true (path_of q i.fields)
  high_is = planned.high ∙ ap (bound_of q true) path

  encloses : Encloses q i.fields plan.low plan.high
  encloses d due carried =
      let k = key_of i.fields d in
      ap (λ p. is_between p plan.high k) low_is
      ∙ ap (λ p. is_between (bound_of q false (path_of q i.fields)) p k) high_is
      ∙ due_between q i.fields d due carried

  module _ (rows : List Stored) (ids met_ids : List (List ℕ))
      (parts : rows ++ due_among q documents ids ≡ due_among q documents met_ids)
      (walked : met_ids ≡ ids_between plan.low plan.high i.keys) where
    all_parts : rows ++ due_among q documents ids
        ≡ due_among q documents (ids_between plan.low plan.high i.keys)
    all_parts = parts ∙ ap (due_among q documents) walked

    -- the first ones don't tie
    pub first_distinct : IsDistinct (eq_by_cmp (stored_cmp q)) rows
    first_distinct =
        distinct_front (eq_by_cmp (stored_cmp q)) rows (due_among q documents ids)
        (subst (IsDistinct (eq_by_cmp (stored_cmp q))) (sym all_parts)
        (met_distinct q documents i.fields i.keys plan.low plan.high collection up held_there))

    -- in order they are so strictly
    pub first_strict : (first : List Stored) → first ≡ sorted (stored_before q) rows
        → IsStrictlySortedBy (stored_cmp q) first
    first_strict first first_is =
        subst (IsStrictlySortedBy (stored_cmp q)) (sym first_is)
        (ordered-sorted (stored_cmp q) (stored_total q) rows first_distinct)

    -- and don't tie with the others
    pub first_apart : (first : List Stored) → first ≡ sorted (stored_before q) rows
        → differ q (first ++ due_among q documents ids)
    first_apart first first_is =
        apart_so q documents i.fields i.keys plan.low plan.high collection up held_there encloses
        rows first ids all_parts first_is

    module _ (most : Option ℕ) (wanted_so : most ≡ most_rows q)
        (full : IsFull most (length rows) ids) where
      -- where the plan is ordered they are the result
      pub ordered_result : plan.ordered ≡ true → drop q.skip rows
          ≡ result_of q (values_of documents)
      ordered_result ordered =
          run_ordered q documents i.fields i.keys plan.low plan.high collection up held_there
          encloses rows ids all_parts (subst (λ m. IsFull m (length rows) ids) wanted_so full)
          (ap (is_ordered q) (sym path) ∙ sym planned.ordered ∙ ordered)

      -- else as many first ones of those in order and of the others
      pub sorted_result : (first last : List Stored) → first ≡ sorted (stored_before q) rows
          → last
          ≡ take (length first) (sorted (stored_before q) (first ++ due_among q documents ids))
          → drop q.skip last ≡ result_of q (values_of documents)
      sorted_result first last =
          run_sorted q documents i.fields i.keys plan.low plan.high collection up held_there
          encloses rows first last ids all_parts
          (subst (λ m. IsFull m (length rows) ids) wanted_so full)

      -- no more than are skipped leave nothing
      pub short_result : length rows ≤ q.skip → result_of q (values_of documents) ≡ []
      short_result few =
          let first = sorted (stored_before q) rows in
          let all = sorted (stored_before q) (first ++ due_among q documents ids) in
          let same : length first ≡ length rows =
          length_permutation rows first (sorted-permutes (stored_before q) rows) in
          let cut = length_cut (length first) all in
          sym (sorted_result first (take (length first) all) refl refl)
          ∙ drop_all q.skip (take (length first) all) (omega (arith, same, cut, few))

  -- nor do no more keys
  pub few_result : (met_ids : List (List ℕ)) → met_ids ≡ ids_between plan.low plan.high i.keys
      → length met_ids ≤ q.skip → result_of q (values_of documents) ≡ []
  few_result met_ids walked few =
      let due = due_among q documents met_ids in
      let some = length_given (λ id. if_due q (named documents id)) met_ids in
      short_result due [] met_ids (append-nil due) walked (most_rows q) refl
      (at_most_full q.limit q.skip (length due) (omega (arith, some, few)))
      (omega (arith, some, few))
