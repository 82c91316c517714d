-- The result of a query: there is one, and a sort of lent documents gives it.
use Rattle.std.proofs.Common.{◌≡◌, ℕ, zero, suc, Bool, true, false, cond, Bor, Option, Some, None, List, [], ◌∷◌, map, filter, take, drop, Ordering, Less, Equal, refl, sym, ap, ◌∙◌, subst}
use Rattle.std.proofs.lemmas.Bool.{false≢true, false_from_ne_true}
use Rattle.std.proofs.lemmas.Cmp.{on_total, tied_itself}
use Rattle.std.proofs.lemmas.List.Sorted.{IsPermutation-map, IsPermutation-sym, IsPermutation-trans}
use Rattle.std.proofs.lemmas.Slice.Eq.{bytes_eq-Decides}
use Rattle.std.specs.Cmp.{IsTotalOrder, Equal-is}
use Rattle.std.specs.List.{AllByRecursion, IsDistinct}
use Rattle.std.specs.List.Sorted.{IsPermutation, IsSortedBy, IsStrictlySortedBy}
use Rattle.std.specs.Map.{keys_of, values_of}
use Rattle.std.specs.Ordering.{is_lt, eq_by_cmp}
use Rattle.std.specs.Str.{bytes_eq}
use Rattle.rx_value.proofs.Ordered.{text_total}
use Rattle.rx_value.specs.Named.{named, AreRising}
use Rattle.rx_value.specs.Order.{text_cmp}
use Rattle.rx_value.specs.declared.value.Value.TheVariants.{Text}
use Rattle.rx_value.proofs.Lists.{map-filter}
use Rattle.rx_document.specs.Documents.{Documents}
use Rattle.rx_document.specs.declared.stored.Stored.{Stored}
use Rattle.rx_query.specs.QuerySpec.{QuerySpec}
use Rattle.rx_query.specs.Lists.{sorted}
use Rattle.rx_query.specs.Result.{is_due, stored_cmp, stored_before, at_most, result_of, AreKeyed, ResultsAreDetermined, CollectionsAreKeyed}
use Rattle.rx_query.proofs.Orders.{query_total, keys_decide}
use Rattle.rx_query.proofs.Sorting.{sorted-permutes, one_order, ordered-sorted, strict_from_sort}

-- ---- lists seen through a function

module _ {A B : Type 0} (f : A → B) where
  map-take : (n : ℕ) (xs : List A) → map f (take n xs) ≡ take n (map f xs)
  map-take zero xs = refl
  map-take (suc n) [] = refl
  map-take (suc n) (x ∷ xs) = ap (λ ys. f x ∷ ys) (map-take n xs)

  pub map-drop : (n : ℕ) (xs : List A) → map f (drop n xs) ≡ drop n (map f xs)
  map-drop zero xs = refl
  map-drop (suc n) [] = refl
  map-drop (suc n) (x ∷ xs) = map-drop n xs

  pub map-cut : (limit : Option ℕ) (xs : List A) → map f (at_most limit xs)
      ≡ at_most limit (map f xs)
  map-cut None xs = refl
  map-cut (Some n) xs = map-take n xs

  all-map : (P : B → Type 0) (xs : List A) → AllByRecursion (λ a. P (f a)) xs
      → AllByRecursion P (map f xs)
  all-map P [] h = tt
  all-map P (x ∷ xs) h = (h.0, all-map P xs h.1)

  all_mapped : (P : B → Type 0) (xs : List A) → AllByRecursion P (map f xs)
      → AllByRecursion (λ a. P (f a)) xs
  all_mapped P [] h = tt
  all_mapped P (x ∷ xs) h = (h.0, all_mapped P xs h.1)

  strict-map : (cmp : B → B → Ordering) (xs : List A)
      → IsStrictlySortedBy (λ a b. cmp (f a) (f b)) xs → IsStrictlySortedBy cmp (map f xs)
  unfolding IsStrictlySortedBy
  strict-map cmp [] up = tt
  strict-map cmp (x ∷ xs) up =
      (all-map (λ z. cmp (f x) z ≡ Less) xs up.0, strict-map cmp xs up.1)

  distinct_mapped : (same : B → B → Bool) (xs : List A) → IsDistinct same (map f xs)
      → IsDistinct (λ a b. same (f a) (f b)) xs
  unfolding IsDistinct
  distinct_mapped same [] h = tt
  distinct_mapped same (x ∷ xs) h =
      (all_mapped (λ z. same (f x) z ≡ false) xs h.0, distinct_mapped same xs h.1)

-- ---- documents with distinct keys don't tie

-- one that carries another key
apart : (q : QuerySpec) (x y : Stored) → named x.state.fields q.primary ≡ Some (Text x.state.key)
    → named y.state.fields q.primary ≡ Some (Text y.state.key)
    → bytes_eq x.state.key y.state.key ≡ false → eq_by_cmp (stored_cmp q) x y ≡ false
apart q x y at_x at_y differ =
    false_from_ne_true (eq_by_cmp (stored_cmp q) x y)
    (λ tie. keys_decide q x.state.fields y.state.fields x.state.key y.state.key at_x at_y
    (λ same. false≢true (sym differ ∙ (bytes_eq-Decides x.state.key y.state.key).1 same))
    ((Equal-is (stored_cmp q x y)).0 tie))

-- one and all others
apart_due : (q : QuerySpec) (x : Stored) (docs : List Stored)
    → named x.state.fields q.primary ≡ Some (Text x.state.key)
    → AllByRecursion (λ k. bytes_eq x.state.key k ≡ false) (map (λ d. d.state.key) docs)
    → AllByRecursion (λ d. named d.state.fields q.primary ≡ Some (Text d.state.key)) docs
    → AllByRecursion (λ y. eq_by_cmp (stored_cmp q) x y ≡ false) (filter (is_due q) docs)
apart_due q x [] at differ carried = tt
apart_due q x (d ∷ docs) at differ carried =
    let rest = apart_due q x docs at differ.1 carried.1 in
    elim (is_due q d) as (λ b. AllByRecursion (λ y. eq_by_cmp (stored_cmp q) x y ≡ false)
    (cond b (d ∷ filter (is_due q) docs) (filter (is_due q) docs)))
    [ true ↦ (apart q x d at carried.0 differ.0, rest) | false ↦ rest ]

-- all that are due
distinct_due : (q : QuerySpec) (docs : List Stored)
    → IsDistinct bytes_eq (map (λ d. d.state.key) docs)
    → AllByRecursion (λ d. named d.state.fields q.primary ≡ Some (Text d.state.key)) docs
    → IsDistinct (eq_by_cmp (stored_cmp q)) (filter (is_due q) docs)
unfolding IsDistinct
distinct_due q [] differ carried = tt
distinct_due q (d ∷ docs) differ carried =
    let rest = distinct_due q docs differ.1 carried.1 in
    elim (is_due q d) as (λ b. IsDistinct (eq_by_cmp (stored_cmp q))
    (cond b (d ∷ filter (is_due q) docs) (filter (is_due q) docs)))
    [ true ↦ (apart_due q d docs carried.0 differ.0 carried.1, rest) | false ↦ rest ]

-- ---- there is one result

-- documents in the order of a query are in total order
stored_total : (q : QuerySpec) → IsTotalOrder (stored_cmp q)
stored_total q = on_total (λ (d : Stored). d.state.fields) (query_total q)

pub one_result : ResultsAreDetermined
one_result q docs keyed =
    let due = filter (is_due q) docs in
    let all = sorted (stored_before q) due in
    let once = sorted-permutes (stored_before q) due in
    let up = ordered-sorted (stored_cmp q) (stored_total q) due
    (distinct_due q docs keyed.distinct keyed.carried) in
    record {
      is_result = record { all = all; each_once = once; in_order = up; window = refl };
      no_other = λ others r.
          r.window
          ∙ ap (λ rows. at_most q.limit (drop q.skip rows))
          (one_order (stored_cmp q) (stored_total q) r.all all r.in_order up
          (IsPermutation-trans r.all due all (IsPermutation-sym due r.all r.each_once) once));
    }

-- ---- a sort of lent documents gives it

-- lent documents as they are
abbrev pub lent : List (Bor Stored) → List Stored
lent = map (λ d. d.now)

-- and their order
abbrev pub lent_cmp : QuerySpec → Bor Stored → Bor Stored → Ordering
lent_cmp q a b = stored_cmp q a.now b.now

pub sort_gives : (q : QuerySpec) (docs all rows : List (Bor Stored))
    → AreKeyed q.primary (lent docs)
    → IsPermutation (filter (λ d. is_due q d.now) docs) all
    → IsSortedBy (λ a b. is_lt (lent_cmp q a b)) all → rows ≡ at_most q.limit (drop q.skip all)
    → lent rows ≡ result_of q (lent docs)
sort_gives q docs all rows keyed moved up window =
    let now : Bor Stored → Stored = λ d. d.now in
    let due = filter (λ (d : Bor Stored). is_due q d.now) docs in
    let same = map-filter now (is_due q) docs in
    let differ = distinct_mapped now (eq_by_cmp (stored_cmp q)) due
    (subst (IsDistinct (eq_by_cmp (stored_cmp q))) (sym same)
    (distinct_due q (lent docs) keyed.distinct keyed.carried)) in
    (one_result q (lent docs) keyed).no_other (lent rows)
    (record {
      all = lent all;
      each_once =
          subst (λ xs. IsPermutation xs (lent all)) same (IsPermutation-map now due all moved);
      in_order = strict-map now (stored_cmp q) all
          (strict_from_sort (lent_cmp q) (on_total now (stored_total q)) due all differ moved up);
      window =
          ap (map now) window ∙ map-cut now q.limit (drop q.skip all)
          ∙ ap (at_most q.limit) (map-drop now q.skip all);
    })

-- ---- documents by rising keys have distinct ones

-- a lower key is another
pub other_key : (k l : List ℕ) → text_cmp k l ≡ Less → bytes_eq k l ≡ false
other_key k l h =
    false_from_ne_true (bytes_eq k l) (λ e.
    let same = (bytes_eq-Decides k l).0 e in
    let level : text_cmp k l ≡ Equal =
    ap (λ n. text_cmp k n) (sym same) ∙ tied_itself text_total k in
    let bad : Less ≡ Equal = sym h ∙ level in cc)

-- a lower key is another than all
below : (k : List ℕ) (ds : Documents) → AllByRecursion (λ e. e.1.state.key ≡ e.0) ds
    → AllByRecursion (λ l. text_cmp k l ≡ Less) (keys_of ds)
    → AllByRecursion (λ l. bytes_eq k l ≡ false) (map (λ d. d.state.key) (values_of ds))
below k [] keyed h = tt
below k (d ∷ ds) keyed h = (ap (bytes_eq k) keyed.0 ∙ other_key k d.0 h.0, below k ds keyed.1 h.1)

-- rising keys are distinct
distinct_keys : (ds : Documents) → AreRising ds → AllByRecursion (λ e. e.1.state.key ≡ e.0) ds
    → IsDistinct bytes_eq (map (λ d. d.state.key) (values_of ds))
unfolding IsDistinct IsStrictlySortedBy
distinct_keys [] up keyed = tt
distinct_keys (d ∷ ds) up keyed = (
  subst (λ k. AllByRecursion (λ l. bytes_eq k l ≡ false)
      (map (λ e. e.state.key) (values_of ds))) (sym keyed.0) (below d.0 ds keyed.1 up.0),
  distinct_keys ds up.1 keyed.1,
)

-- what holds of all entries' documents
pub all_values : (P : Stored → Type 0) (ds : Documents) → AllByRecursion (λ e. P e.1) ds
    → AllByRecursion P (values_of ds)
all_values P [] h = tt
all_values P (d ∷ ds) h = (h.0, all_values P ds h.1)

pub are_keyed : CollectionsAreKeyed
are_keyed primary ds c = record {
  distinct = distinct_keys ds c.rising c.keyed;
  carried =
      all_values (λ d. named d.state.fields primary ≡ Some (Text d.state.key)) ds c.carried;
}
