-- Counting what stands between bounds gives the length of the result.
use Rattle.std.proofs.Common.{◌≡◌, inl, inr, ℕ, suc, IfSome, get_or, slice_get, true, false, List, [], ◌∷◌, map, filter, drop, length, Option, Some, None, refl, sym, ap, ◌∙◌, subst}
use Rattle.std.proofs.lemmas.Bool.{false≢true}
use Rattle.std.proofs.lemmas.List.{length-map, length-take, length-drop}
use Rattle.std.proofs.lemmas.List.Sorted.{length_permutation}
use Rattle.std.specs.List.{filter_map, cons_option}
use Rattle.std.specs.List.Sorted.{IsStrictlySortedBy}
use Rattle.std.specs.Map.{values_of}
use Rattle.rx_value.specs.Named.{named}
use Rattle.rx_document.specs.Documents.{Documents}
use Rattle.rx_document.specs.declared.stored.Stored.{Stored}
use Rattle.rx_query.proofs.Sorting.{In, sorted-permutes}
use Rattle.rx_query.specs.QuerySpec.{QuerySpec}
use Rattle.rx_query.specs.Lists.{sorted}
use Rattle.rx_query.specs.Result.{is_due, stored_before, at_most, result_of, IsCollection}
use Rattle.rx_index.proofs.Positions.{position_eq-Decides}
use Rattle.rx_index.specs.Index.{Indexed, indexed_by, is_key_of, HoldsWhere, is_between, ids_between}
use Rattle.rx_index.specs.Position.{Position, position_cmp, key_of, id_of}
use Rattle.rx_planner.specs.Closed.{closed_of}
use Rattle.rx_planner.specs.Count.{within_limit, in_window}
use Rattle.rx_planner.specs.Exact.{is_exact}
use Rattle.rx_planner.specs.Plan.{Names, path_of, bound_of, IsPlan}
use Rattle.rx_planner.specs.Rows.{if_due, due_among}
use Rattle.rx_planner.specs.declared.planned.Plan.{Plan}
use Rattle.rx_planner.proofs.Enclosed.{due_closed, between_wider}
use Rattle.rx_planner.proofs.Told.{closed_due}
use Rattle.rx_planner.proofs.Members.{from_filter, filter_map-map}
use Rattle.rx_planner.proofs.Runs.{met_sorted, named_in, carried_in, due_is, has_in, low_is, high_is, held_there}

-- ---- lists

-- where h gives something of each
pub all_given : {X Y : Type 0} (h : X → Option Y) (xs : List X)
    → ((x : X) → In x xs → (y : Y) × (h x ≡ Some y)) → length (filter_map h xs) ≡ length xs
all_given h [] some = refl
all_given h (x ∷ xs) some =
    ap (λ o. length (cons_option o (filter_map h xs))) (some x (inl refl)).1
    ∙ ap suc (all_given h xs (λ y i. some y (inr i)))

cut_length : {X : Type 0} (limit : Option ℕ) (rows : List X)
    → length (at_most limit rows) ≡ within_limit limit (length rows)
cut_length None rows = refl
cut_length (Some limit) rows = length-take limit rows

-- as many rows as the window takes in
pub window_length : (q : QuerySpec) (docs : List Stored)
    → length (result_of q docs) ≡ in_window q (length (filter (is_due q) docs))
window_length q docs =
    let due = filter (is_due q) docs in
    let all = sorted (stored_before q) due in
    cut_length q.limit (drop q.skip all)
    ∙ ap (within_limit q.limit) (length-drop q.skip all)
    ∙ ap (in_window q) (length_permutation due all (sorted-permutes (stored_before q) due))

-- ---- what stands between the closed bounds

module _ (q : QuerySpec) (documents : Documents) (fields : Names) (keys : List Position)
    (collection : IsCollection q.primary documents) (up : IsStrictlySortedBy position_cmp keys)
    (held_wide : HoldsWhere
    (is_between (bound_of q false (path_of q fields)) (bound_of q true (path_of q fields)))
    (indexed_by fields keys) documents) where
  abbrev low : Position
  low = closed_of q false (path_of q fields)

  abbrev high : Position
  high = closed_of q true (path_of q fields)

  held : HoldsWhere (is_between low high) (indexed_by fields keys) documents
  held k h = held_wide k (between_wider q (path_of q fields) k h)

  -- as many are due as the result has without its window
  as_many : length (due_among q documents (ids_between low high keys))
      ≡ length (filter (is_due q) (values_of documents))
  as_many =
      let met = due_among q documents (ids_between low high keys) in
      let due = filter (is_due q) (values_of documents) in
      sym (length_permutation met (sorted (stored_before q) met)
      (sorted-permutes (stored_before q) met))
      ∙ ap length
      (met_sorted q documents fields keys low high collection up held (due_closed q fields))
      ∙ length_permutation due (sorted (stored_before q) due)
      (sorted-permutes (stored_before q) due)

  pub walked_length : length (result_of q (values_of documents))
      ≡ in_window q (length (due_among q documents (ids_between low high keys)))
  walked_length = window_length q (values_of documents) ∙ ap (in_window q) (sym as_many)

  -- where the bounds say all that the selector does, each is due
  module _ (exact : is_exact q (path_of q fields) ≡ true) where
    due_at : (k : Position) → In k (filter (is_between low high) keys)
        → (d : Stored) × (if_due q (named documents (id_of k)) ≡ Some d)
    due_at k i =
        let there = from_filter (is_between low high) keys k i in
        let held_so : is_key_of fields (named documents (id_of k)) k ≡ true =
        sym (held k there.1) ∙ has_in keys k there.0 in
        (elim (named documents (id_of k)) as (λ o. named documents (id_of k) ≡ o
        → is_key_of fields o k ≡ true → (d : Stored) × (if_due q o ≡ Some d)) [
          | None ↦ (λ _ h. absurd (false≢true h))
          | Some d ↦ (λ at h.
              let same : key_of fields d ≡ k = (position_eq-Decides (key_of fields d) k).0 h in
              let carried = carried_in q.primary documents collection.carried d
              (named_in documents (id_of k) d at) in (
                d,
                due_is q (Some d) d refl
                    (closed_due q fields d exact carried (ap (is_between low high) same ∙ there.1)),
              ))
        ]) refl held_so

    pub span_length : length (result_of q (values_of documents))
        ≡ in_window q (length (ids_between low high keys))
    span_length =
        let between = filter (is_between low high) keys in
        walked_length
        ∙ ap (λ rows. in_window q (length rows))
        (filter_map-map (λ id. if_due q (named documents id)) id_of between)
        ∙ ap (in_window q) (all_given (λ k. if_due q (named documents (id_of k))) between due_at
        ∙ sym (length-map between id_of))

-- ---- by a plan

module _ (q : QuerySpec) (documents : Documents) (indexes : List Indexed) (plan : Plan)
    (i : Indexed)
    (is : i ≡ get_or indexes plan.index i) (planned : IsPlan q (map (λ k. k.fields) indexes) plan)
    (collection : IsCollection q.primary documents)
    (held : IfSome (slice_get indexes plan.index)
    (λ k. HoldsWhere (is_between plan.low plan.high) k documents))
    (up : IsStrictlySortedBy position_cmp i.keys) where
  wide : HoldsWhere
      (is_between (bound_of q false (path_of q i.fields)) (bound_of q true (path_of q i.fields)))
      (indexed_by i.fields i.keys) documents
  wide =
      subst (λ p. HoldsWhere (is_between p (bound_of q true (path_of q i.fields))) i documents)
      (low_is q documents indexes plan i is planned collection held up)
      (subst (λ p. HoldsWhere (is_between plan.low p) i documents)
      (high_is q documents indexes plan i is planned collection held up)
      (held_there q documents indexes plan i is planned collection held up))

  module _ (path : Names) (low high : Position) (ids : List (List ℕ))
      (path_is : path ≡ path_of q i.fields) (low_is : low ≡ closed_of q false path)
      (high_is : high ≡ closed_of q true path) (ids_are : ids ≡ ids_between low high i.keys) where
    ids_so : ids ≡ ids_between (closed_of q false (path_of q i.fields))
        (closed_of q true (path_of q i.fields))
        i.keys
    ids_so =
        ids_are ∙ ap (λ p. ids_between p high i.keys) (low_is ∙ ap (closed_of q false) path_is)
        ∙ ap (λ p. ids_between (closed_of q false (path_of q i.fields)) p i.keys)
        (high_is ∙ ap (closed_of q true) path_is)

    -- the documents of the keys that are due are as many as the result has without its window
    pub walked_count : in_window q (length (due_among q documents ids))
        ≡ length (result_of q (values_of documents))
    walked_count =
        ap (λ xs. in_window q (length (due_among q documents xs))) ids_so
        ∙ sym (walked_length q documents i.fields i.keys collection up wide)

    -- and so are the keys, where the bounds say all
    pub span_count : is_exact q path ≡ true
        → in_window q (length ids) ≡ length (result_of q (values_of documents))
    span_count exact =
        ap (λ xs. in_window q (length xs)) ids_so
        ∙ sym (span_length q documents i.fields i.keys collection up wide
        (ap (is_exact q) (sym path_is) ∙ exact))
