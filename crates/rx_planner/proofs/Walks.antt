-- A walk gathers the rows in order, part by part.
use Rattle.std.proofs.Common.{◌≡◌, ◌⊎◌, inl, inr, ℕ, zero, suc, ◌+◌, ◌-◌, ◌<◌, ◌≤◌, Bool, true, false, not, cond, ◌&&◌, List, [], ◌∷◌, ◌++◌, map, filter, length, slice_get, Option, Some, None, IfSome, Ordering, Less, refl, sym, ap, ◌∙◌, subst, arith, append_assoc, append-nil}
use Rattle.std.proofs.lemmas.Bool.{and_parts, not-true}
use Rattle.std.proofs.lemmas.List.{map-append, length-map}
use Rattle.std.proofs.lemmas.List.Sorted.{IsPermutation-sym}
use Rattle.std.specs.List.{AllByRecursion, IsDistinct}
use Rattle.std.specs.List.Sorted.{IsStrictlySortedBy}
use Rattle.std.specs.Map.{values_of}
use Rattle.std.specs.Ordering.{is_le, eq_by_cmp}
use Rattle.rx_value.specs.Named.{named}
use Rattle.rx_value.specs.declared.value.Value.{Value}
use Rattle.rx_value.specs.declared.value.Value.TheVariants.{Flag}
use Rattle.rx_document.specs.Documents.{Documents}
use Rattle.rx_document.specs.declared.stored.Stored.{Stored}
use Rattle.rx_query.proofs.Sorting.{In, all_in, in-permutation, sorted-permutes, ordered-sorted, same_members}
use Rattle.rx_query.specs.QuerySpec.{QuerySpec}
use Rattle.rx_query.specs.Order.{query_cmp}
use Rattle.rx_query.specs.Result.{is_due, stored_cmp, stored_before}
use Rattle.rx_index.specs.Index.{Indexed, indexed_by, HoldsWhere, Holds, is_between, ids_between}
use Rattle.rx_index.specs.Position.{Position, position_cmp, values_cmp, precedes, key_of}
use Rattle.rx_planner.specs.Plan.{Names, path_of, bound_of}
use Rattle.rx_planner.specs.Rows.{due_among}
use Rattle.rx_planner.specs.Way.{falls, front, part_low, part_high, left_low, left_high, keys_next, keys_left, cut_behind, IsPivot, IsCut, first_low, first_high, needed_for, needed, all_rows, rows_between, IsStill, IsUnderWay, IsWay, HasStepped}
use Rattle.rx_planner.specs.declared.walk.Step.TheVariants.{More, Whole, TooFar}
use Rattle.rx_planner.proofs.Costs.{keys_cut}
use Rattle.rx_planner.proofs.Cuts.{le_through, before_le, cut_apart}
use Rattle.rx_planner.proofs.Members.{from_filter}
use Rattle.rx_planner.proofs.Pivots.{in_slice, due_pivot, above, below}
use Rattle.rx_planner.proofs.Rising.{stored_total}
use Rattle.rx_planner.proofs.Runs.{carried_in, met_due, met_between, between_met, met_distinct, met_sorted}
use Rattle.rx_planner.proofs.Selected.{key_is, due_parts, due_between}
use Rattle.rx_planner.proofs.Ways.{front_parts, front_decides, bound_long}

-- ---- lists behind one another

in_first : {X : Type 0} (xs ys : List X) (z : X) → In z xs → In z (xs ++ ys)
in_first [] ys z i = absurd i
in_first (x ∷ xs) ys z (inl e) = inl e
in_first (x ∷ xs) ys z (inr i) = inr (in_first xs ys z i)

in_second : {X : Type 0} (xs ys : List X) (z : X) → In z ys → In z (xs ++ ys)
in_second [] ys z i = i
in_second (x ∷ xs) ys z i = inr (in_second xs ys z i)

in_parts : {X : Type 0} (xs ys : List X) (z : X) → In z (xs ++ ys) → In z xs ⊎ In z ys
in_parts [] ys z i = inr i
in_parts (x ∷ xs) ys z (inl e) = inl (inl e)
in_parts (x ∷ xs) ys z (inr i) =
    elim (in_parts xs ys z i) [ inl j ↦ inl (inr j) | inr j ↦ inr j ]

all_of : {X : Type 0} (P : X → Type 0) (xs : List X) → ((z : X) → In z xs → P z)
    → AllByRecursion P xs
all_of P [] h = tt
all_of P (x ∷ xs) h = (h x (inl refl), all_of P xs (λ z i. h z (inr i)))

-- rows in order, and behind them rows in order that come after each of them
strict_joined : {X : Type 0} (cmp : X → X → Ordering) (xs ys : List X) → IsStrictlySortedBy cmp xs
    → IsStrictlySortedBy cmp ys → ((x y : X) → In x xs → In y ys → cmp x y ≡ Less)
    → IsStrictlySortedBy cmp (xs ++ ys)
unfolding IsStrictlySortedBy
strict_joined cmp [] ys up up' h = up'
strict_joined cmp (x ∷ xs) ys up up' h = (
  all_of (λ z. cmp x z ≡ Less) (xs ++ ys)
      (λ z i. elim (in_parts xs ys z i) [
        | inl j ↦ all_in (λ w. cmp x w ≡ Less) xs up.0 z j
        | inr j ↦ h x z (inl refl) j
      ]),
  strict_joined cmp xs ys up.1 up' (λ y z i j. h y z (inr i) j),
)

-- where each index holds the documents, the one at a place holds those that pass a test
pub held_at : (documents : Documents) (test : Position → Bool) (indexes : List Indexed) (n : ℕ)
    → AllByRecursion (λ i. Holds i documents) indexes
    → IfSome (slice_get indexes n) (λ i. HoldsWhere test i documents)
held_at documents test [] n all = tt
held_at documents test (i ∷ is) zero all = λ k passes. all.0 k refl
held_at documents test (i ∷ is) (suc n) all = held_at documents test is n all.1

-- all due ones of some documents
pub gathered : (q : QuerySpec) (documents : Documents) (found : List Stored)
    (left ids : List (List ℕ))
    → found ++ due_among q documents left ≡ due_among q documents ids → left ≡ []
    → found ≡ due_among q documents ids
gathered q documents found left ids parts none =
    sym (append-nil found) ∙ ap (λ xs. found ++ due_among q documents xs) (sym none) ∙ parts

-- ---- between positions in a row

module _ (low cut high k : Position) (above : precedes low cut ≡ true)
    (below : precedes cut high ≡ true) where
  both : (a b : Bool) → a ≡ true → b ≡ false → (a && not b) ≡ true
  both a b h l = ap (λ c. c && not b) h ∙ ap not l

  pub low_wider : is_between cut high k ≡ true → is_between low high k ≡ true
  low_wider h =
      let parts = and_parts (precedes cut k) (not (precedes high k)) h in
      both (precedes low k) (precedes high k) (le_through low cut k above parts.0)
      (not-true (precedes high k) parts.1)

  pub high_wider : is_between low cut k ≡ true → is_between low high k ≡ true
  high_wider h =
      let parts = and_parts (precedes low k) (not (precedes cut k)) h in
      both (precedes low k) (precedes high k) parts.0
      (before_le cut high k below (not-true (precedes cut k) parts.1))

  pub on_a_side : is_between low high k ≡ true
      → (is_between cut high k ≡ true) ⊎ (is_between low cut k ≡ true)
  on_a_side h =
      let parts = and_parts (precedes low k) (not (precedes high k)) h in
      (elim (precedes cut k) as (λ b. precedes cut k ≡ b
      → (is_between cut high k ≡ true) ⊎ (is_between low cut k ≡ true)) [
        | true ↦ (λ e. inl (both (precedes cut k) (precedes high k) e
            (not-true (precedes high k) parts.1)))
        | false ↦ (λ e. inr (both (precedes low k) (precedes cut k) parts.0 e))
      ]) refl

-- ---- the rows between two positions

module _ (q : QuerySpec) (documents : Documents) (index : Indexed) (names : Names)
    (way : IsWay q documents index names) (up : IsStrictlySortedBy position_cmp index.keys) where
  abbrev key : Stored → Position
  key d = key_of index.fields d

  abbrev due : List Stored
  due = filter (is_due q) (values_of documents)

  abbrev rows : Position → Position → List Stored
  rows low high = rows_between q documents index.keys low high

  abbrev met : Position → Position → List Stored
  met low high = due_among q documents (ids_between low high index.keys)

  held : (low high : Position)
      → HoldsWhere (is_between low high) (indexed_by index.fields index.keys) documents
  held low high k _ = way.held k refl

  strict : (low high : Position) → IsStrictlySortedBy (stored_cmp q) (rows low high)
  strict low high =
      ordered-sorted (stored_cmp q) (stored_total q) (met low high)
      (met_distinct q documents index.fields index.keys low high way.collection up (held low high))

  pub apart : (low high : Position) → IsDistinct (eq_by_cmp (stored_cmp q)) (met low high)
  apart low high =
      met_distinct q documents index.fields index.keys low high way.collection up (held low high)

  from_rows : (low high : Position) (z : Stored) → In z (rows low high) → In z (met low high)
  from_rows low high z =
      in-permutation (rows low high) (met low high) z
      (IsPermutation-sym (met low high) (rows low high)
      (sorted-permutes (stored_before q) (met low high)))

  is_among : (low high : Position) (z : Stored) → In z (rows low high)
      → In z due × (is_between low high (key z) ≡ true)
  is_among low high z i =
      let j = from_rows low high z i in (
        met_due q documents index.fields index.keys low high way.collection up (held low high) z j,
        met_between q documents index.fields index.keys low high way.collection up (held low high)
            z j,
      )

  among_is : (low high : Position) (z : Stored) → In z due → is_between low high (key z) ≡ true
      → In z (rows low high)
  among_is low high z i h =
      in-permutation (met low high) (rows low high) z
      (sorted-permutes (stored_before q) (met low high))
      (between_met q documents index.fields index.keys low high way.collection up (held low high) z
      i h)

  -- between the bounds there are all
  pub all_between : (low high : Position) → low ≡ bound_of q false (path_of q index.fields)
      → high ≡ bound_of q true (path_of q index.fields) → rows low high ≡ all_rows q documents
  all_between low high low_is high_is =
      met_sorted q documents index.fields index.keys low high way.collection up (held low high)
      (λ d is carried.
      ap (λ p. is_between p high (key d)) low_is
      ∙ ap (λ p. is_between (bound_of q false (path_of q index.fields)) p (key d)) high_is
      ∙ due_between q index.fields d is carried)

  -- ---- a cut

  module _ (cut : Position)
      (long : length cut.values ≡ length (front q (path_of q index.fields)) + 1)
    where
      -- the first values of a due document's key, and the others
      first_values : (z : Stored) → In z due → (rest : List (Option Value))
          × ((key z).values ≡ (Some (Flag false)
          ∷ map (λ f. named z.state.fields f) (front q (path_of q index.fields))) ++ rest)
          × ((key z).after ≡ false)
      first_values z i =
          let there = from_filter (is_due q) (values_of documents) z i in
          let carried = carried_in q.primary documents way.collection.carried z there.0 in
          let at : List ℕ → Option Value = λ f. named z.state.fields f in
          let path = path_of q index.fields in
          let parts = front_parts q path in
          let is = key_is q index.fields z (due_parts q z there.1).0 carried in (
            map at parts.0,
            ap (λ p. p.values) is
                ∙ ap (λ fs. Some (Flag false) ∷ map at fs) parts.1
                ∙ ap (λ vs. Some (Flag false) ∷ vs) (map-append at (front q path) parts.0),
            ap (λ p. p.after) is,
          )

      pub cut_decides : (x y : Stored) → In x due → In y due → precedes cut (key x) ≡ true
          → precedes cut (key y) ≡ false
          → stored_cmp q (cond (falls q) x y) (cond (falls q) y x) ≡ Less
      cut_decides x y i j at before =
          let fs = front q (path_of q index.fields) in
          let at_x : List ℕ → Option Value = λ f. named x.state.fields f in
          let at_y : List ℕ → Option Value = λ f. named y.state.fields f in
          let px = first_values x i in
          let py = first_values y j in
          let dx = (from_filter (is_due q) (values_of documents) x i).1 in
          let dy = (from_filter (is_due q) (values_of documents) y j).1 in
          let many_x = length-map fs at_x in
          let many_y = length-map fs at_y in
          let h : is_le (values_cmp cut.values cut.after ((Some (Flag false) ∷ map at_x fs) ++ px.0)
          false) ≡ true =
          (λ i. is_le (values_cmp cut.values cut.after (sym px.1 i) (sym px.2 i))) ∙ at in
          let k : is_le (values_cmp cut.values cut.after ((Some (Flag false) ∷ map at_y fs) ++ py.0)
          false) ≡ false =
          (λ i. is_le (values_cmp cut.values cut.after (sym py.1 i) (sym py.2 i))) ∙ before in
          let less = cut_apart cut.values cut.after (Some (Flag false) ∷ map at_x fs)
          (Some (Flag false) ∷ map at_y fs) px.0 py.0 (omega (arith, long, many_x))
          (omega (arith, long, many_y)) h k in
          turned (falls q) x y
          ∙ front_decides x.state.fields y.state.fields q (due_parts q x dx).1 (due_parts q y dy).1
          (path_of q index.fields) less
        where
          turned : (b : Bool) (d e : Stored) → stored_cmp q (cond b d e) (cond b e d)
              ≡ query_cmp q (cond b d.state.fields e.state.fields)
              (cond b e.state.fields d.state.fields)
          turned true d e = refl
          turned false d e = refl

      module _ (low high : Position) (above : precedes low cut ≡ true)
          (below : precedes cut high ≡ true) where
        -- rows at the cut or behind it, and before it
        apart_by : (x y : Stored) → In x (rows cut high) → In y (rows low cut)
            → stored_cmp q (cond (falls q) x y) (cond (falls q) y x) ≡ Less
        apart_by x y i j =
            let rx = is_among cut high x i in
            let ry = is_among low cut y j in
            cut_decides x y rx.0 ry.0
            (and_parts (precedes cut (key x)) (not (precedes high (key x))) rx.1).0
            (not-true (precedes cut (key y))
            (and_parts (precedes low (key y)) (not (precedes cut (key y))) ry.1).1)

        -- they are all that there are
        on_either : (z : Stored) → In z (rows low high)
            → In z (rows cut high) ⊎ In z (rows low cut)
        on_either z i =
            let r = is_among low high z i in
            elim (on_a_side low cut high (key z) above below r.1) [
              | inl h ↦ inl (among_is cut high z r.0 h)
              | inr h ↦ inr (among_is low cut z r.0 h)
            ]

        of_upper : (z : Stored) → In z (rows cut high) → In z (rows low high)
        of_upper z i =
            let r = is_among cut high z i in
            among_is low high z r.0 (low_wider low cut high (key z) above below r.1)

        of_lower : (z : Stored) → In z (rows low cut) → In z (rows low high)
        of_lower z i =
            let r = is_among low cut z i in
            among_is low high z r.0 (high_wider low cut high (key z) above below r.1)

        -- so the rows of what comes next stand before those of what is left
        pub cut_rows : (b : Bool) → falls q ≡ b
            → rows low high
            ≡ rows (part_low b low cut) (part_high b high cut)
            ++ rows (left_low b low cut) (left_high b high cut)
        cut_rows true fall =
            same_members (stored_cmp q) (stored_total q) (rows low high)
            (rows cut high ++ rows low cut) (strict low high)
            (strict_joined (stored_cmp q) (rows cut high) (rows low cut) (strict cut high)
            (strict low cut)
            (λ x y i j. ap (λ b. stored_cmp q (cond b x y) (cond b y x)) (sym fall)
            ∙ apart_by x y i j))
            (λ z i. elim (on_either z i) [
              | inl j ↦ in_first (rows cut high) (rows low cut) z j
              | inr j ↦ in_second (rows cut high) (rows low cut) z j
            ])
            (λ z i. elim (in_parts (rows cut high) (rows low cut) z i)
            [ inl j ↦ of_upper z j | inr j ↦ of_lower z j ])
        cut_rows false rise =
            same_members (stored_cmp q) (stored_total q) (rows low high)
            (rows low cut ++ rows cut high) (strict low high)
            (strict_joined (stored_cmp q) (rows low cut) (rows cut high) (strict low cut)
            (strict cut high)
            (λ x y i j. ap (λ b. stored_cmp q (cond b y x) (cond b x y)) (sym rise)
            ∙ apart_by y x j i))
            (λ z i. elim (on_either z i) [
              | inl j ↦ in_second (rows low cut) (rows cut high) z j
              | inr j ↦ in_first (rows low cut) (rows cut high) z j
            ])
            (λ z i. elim (in_parts (rows low cut) (rows cut high) z i)
            [ inl j ↦ of_lower z j | inr j ↦ of_upper z j ])

  -- ---- a walk goes on

  pub starts : (low high : Position) → low ≡ first_low q index → high ≡ first_high q index
      → IsUnderWay q documents index [] 0 low high
  starts low high low_is high_is = record {
    parted = all_between low high low_is high_is;
    low_long = short false low low_is;
    high_long = short true high high_is;
    counted =
        let all : length (ids_between low high index.keys)
        ≡ length (ids_between (first_low q index) (first_high q index) index.keys) =
        λ i. length (ids_between (low_is i) (high_is i) index.keys) in omega (arith, all);
    still = at_start (falls q);
  }
    where
      short : (up : Bool) (p : Position) → p ≡ bound_of q up (path_of q index.fields)
          → length p.values ≤ length (front q (path_of q index.fields)) + 1
      short up p is =
          subst (λ (p : Position). length p.values ≤ length (front q (path_of q index.fields)) + 1)
          (sym is) (bound_long q up (path_of q index.fields) way.fits)

      at_start : (b : Bool) → IsStill b low high (first_low q index) (first_high q index)
      at_start true = low_is
      at_start false = high_is

  pub goes_on : (so more : List Stored) (looked now most : ℕ) (low high cut : Position)
      → IsUnderWay q documents index so looked low high
      → IsCut q documents index names most low high cut
      → more ≡ so ++ rows (part_low (falls q) low cut) (part_high (falls q) high cut)
      → now ≡ looked + keys_next (falls q) index.keys low high cut
      → IsUnderWay q documents index more now (left_low (falls q) low cut)
      (left_high (falls q) high cut)
  goes_on so more looked now most low high cut under is added seen =
      let long : length cut.values ≡ length (front q (path_of q index.fields)) + 1 =
      is.long ∙ ap (λ fs. length fs + 1) way.front in
      let part = rows (part_low (falls q) low cut) (part_high (falls q) high cut) in
      let left = rows (left_low (falls q) low cut) (left_high (falls q) high cut) in
      record {
        parted =
            ap (λ xs. xs ++ left) added ∙ append_assoc so part left
            ∙ ap (λ xs. so ++ xs)
            (sym (cut_rows cut long low high is.above is.below (falls q) refl))
            ∙ under.parted;
        low_long = low_stays (falls q) long;
        high_long = high_stays (falls q) long;
        counted =
            let parts = keys_cut index.keys (falls q) low cut high is.above is.below in
            let all = under.counted in omega (arith, parts, all, seen);
        still = stays (falls q) under.still;
      }
    where
      low_stays : (b : Bool) → length cut.values ≡ length (front q (path_of q index.fields)) + 1
          → length (left_low b low cut).values ≤ length (front q (path_of q index.fields)) + 1
      low_stays true long = under.low_long
      low_stays false long = omega (arith, long)

      high_stays : (b : Bool) → length cut.values ≡ length (front q (path_of q index.fields)) + 1
          → length (left_high b high cut).values ≤ length (front q (path_of q index.fields)) + 1
      high_stays true long = omega (arith, long)
      high_stays false long = under.high_long

      stays : (b : Bool) → IsStill b low high (first_low q index) (first_high q index)
          → IsStill b (left_low b low cut) (left_high b high cut) (first_low q index)
          (first_high q index)
      stays true h = h
      stays false h = h

  -- where nothing is left the rows are all
  pub ends : (so more : List Stored) (looked : ℕ) (low high : Position)
      → IsUnderWay q documents index so looked low high → more ≡ so ++ rows low high
      → more ≡ all_rows q documents
  ends so more looked low high under added = added ∙ under.parted

  -- ---- what it has to look at

  -- a row that is wanted and not there yet
  module _ (so : List Stored) (looked most : ℕ) (low high : Position)
      (under : IsUnderWay q documents index so looked low high) (short : length so < most) where
    -- it lies in what is left
    wanted_left : (d : Stored) → slice_get (all_rows q documents) (most - 1) ≡ Some d
        → In d (rows low high)
    wanted_left d at =
        in_behind so (rows low high) (most - 1) d (omega arith)
        (ap (λ xs. slice_get xs (most - 1)) under.parted ∙ at)
      where
        in_behind : (xs ys : List Stored) (k : ℕ) (z : Stored) → length xs ≤ k
            → slice_get (xs ++ ys) k ≡ Some z → In z ys
        in_behind [] ys k z le at = in_slice ys k z at
        in_behind (x ∷ xs) ys zero z le at = absurd (omega arith)
        in_behind (x ∷ xs) ys (suc k) z le at = in_behind xs ys k z (omega arith) at

    wanted_due : (d : Stored) → slice_get (all_rows q documents) (most - 1) ≡ Some d
        → In d due × IsPivot documents index low high d
    wanted_due d at =
        let r = is_among low high d (wanted_left d at) in
        let there = from_filter (is_due q) (values_of documents) d r.0 in (
          r.0,
          due_pivot q documents index way.collection way.held low high d there.0 r.1,
        )

    long_as : (p : Position) → length p.values ≤ length (front q (path_of q index.fields)) + 1
        → length p.values ≤ length names + 1
    long_as p h = let same = ap length way.front in omega (arith, h, same)

    still_left : (b : Bool) (cut : Position)
        → IsStill b low high (first_low q index) (first_high q index)
        → keys_left b index.keys (first_low q index) (first_high q index) cut
        ≡ keys_left b index.keys low high cut
    still_left true cut same = ap (λ p. keys_left true index.keys p high cut) (sym same)
    still_left false cut same = ap (λ p. keys_left false index.keys low p cut) (sym same)

    -- what is left behind its keys isn't needed
    needed_more : (d : Stored) → In d due → (n : ℕ)
        → n + keys_left (falls q) index.keys low high (cut_behind q names d)
        ≤ length (ids_between low high index.keys)
        → looked + n ≤ needed_for q index (Some d)
    needed_more d i n most_left =
        let from = first_low q index in
        let to = first_high q index in
        let cut = cut_behind q names d in
        let path = path_of q index.fields in
        let there = from_filter (is_due q) (values_of documents) d i in
        let carried = carried_in q.primary documents way.collection.carried d there.0 in
        let wide = due_pivot q documents index way.collection way.held from to d there.0
        (due_between q index.fields d there.1 carried) in
        let short_low = long_as from (bound_long q false path way.fits) in
        let short_high = long_as to (bound_long q true path way.fits) in
        let parts = keys_cut index.keys (falls q) from cut to
        (above q documents index names way from to d wide short_low short_high (not (falls q)))
        (below q documents index names way from to d wide short_low short_high (not (falls q))) in
        let same = still_left (falls q) cut under.still in
        let named_so : keys_next (falls q) index.keys from to (cut_behind q (front q path) d)
        ≡ keys_next (falls q) index.keys from to cut =
        ap (λ fs. keys_next (falls q) index.keys from to (cut_behind q fs d)) (sym way.front) in
        let all = under.counted in
        omega (arith, parts, same, named_so, all, most_left)

    -- so it needs what it looked at, and with the keys that begin as the first one does these too
    pub looked_needed : looked ≤ needed q documents index most
    looked_needed =
        (elim (slice_get (all_rows q documents) (most - 1)) as (λ o.
        slice_get (all_rows q documents) (most - 1) ≡ o → looked ≤ needed_for q index o) [
          | None ↦ (λ _. let all = under.counted in omega (arith, all))
          | Some d ↦ (λ at.
              let is = wanted_due d at in
              let cut = cut_behind q names d in
              let short_low = long_as low under.low_long in
              let short_high = long_as high under.high_long in
              let parts = keys_cut index.keys (falls q) low cut high
              (above q documents index names way low high d is.1 short_low short_high
              (not (falls q)))
              (below q documents index names way low high d is.1 short_low short_high
              (not (falls q))) in
              let more = needed_more d is.0 0 (omega (arith, parts)) in omega (arith, more))
        ]) refl

    pub group_needed : (cut : Position) → precedes low cut ≡ true → precedes cut high ≡ true
        → ((d : Stored) → IsPivot documents index low high d
        → keys_left (falls q) index.keys low high (cut_behind q names d)
        ≤ keys_left (falls q) index.keys low high cut)
        → looked + keys_next (falls q) index.keys low high cut ≤ needed q documents index most
    group_needed cut above_it below_it reach =
        let parts = keys_cut index.keys (falls q) low cut high above_it below_it in
        (elim (slice_get (all_rows q documents) (most - 1)) as (λ o.
        slice_get (all_rows q documents) (most - 1) ≡ o
        → looked + keys_next (falls q) index.keys low high cut ≤ needed_for q index o) [
          | None ↦ (λ _. let all = under.counted in omega (arith, all, parts))
          | Some d ↦ (λ at.
              let is = wanted_due d at in
              let most_left = reach d is.1 in
              needed_more d is.0 (keys_next (falls q) index.keys low high cut)
              (omega (arith, parts, most_left)))
        ]) refl

    -- ---- a step

    module _ (wanted budget : ℕ) (within : looked ≤ budget) (room : wanted ≤ budget - looked)
        (fits : wanted ≤ looked + most) where
      -- that took all that was left
      pub whole_step : (more : List Stored) (now : ℕ) (from to : Position)
          → more ≡ so ++ rows low high
          → now ≡ looked + length (ids_between low high index.keys)
          → length (ids_between low high index.keys) ≤ wanted
          → HasStepped q documents index most budget looked more now from to Whole
      whole_step more now from to added seen few =
          let need = looked_needed in (
            ends so more looked low high under added,
            omega (arith, seen, few, within, room),
            omega (arith, seen, few, fits, need),
          )

      module _ (cut : Position) (is : IsCut q documents index names wanted low high cut) where
        -- that would look at too much
        pub far_step : (from to : Position) (same : List Stored) (now : ℕ) → now ≡ looked
            → budget - looked < keys_next (falls q) index.keys low high cut
            → HasStepped q documents index most budget looked same now from to TooFar
        far_step from to same now stays far =
            let need = looked_needed in
            elim is.reach [
              | inl few ↦ absurd (omega (arith, few, far, room))
              | inr group ↦
                  let all = group_needed cut is.above is.below group in (
                    omega (arith, stays, within),
                    omega (arith, stays, far, all, need, within),
                  )
            ]

        -- that goes on
        pub more_step : (more : List Stored) (now : ℕ)
            → more ≡ so ++ rows (part_low (falls q) low cut) (part_high (falls q) high cut)
            → now ≡ looked + keys_next (falls q) index.keys low high cut
            → keys_next (falls q) index.keys low high cut ≤ budget - looked
            → HasStepped q documents index most budget looked more now (left_low (falls q) low cut)
            (left_high (falls q) high cut) More
        more_step more now added seen near =
            let need = looked_needed in
            let some = is.some in (
              goes_on so more looked now wanted low high cut under is added seen,
              omega (arith, seen, some),
              omega (arith, seen, near, within),
              (elim is.reach [
                | inl few ↦ omega (arith, seen, few, fits, need)
                | inr group ↦
                    let all = group_needed cut is.above is.below group in omega (arith, seen, all)
              ]),
            )
