-- The order of rows: that of the query where rows carry their keys, and total on all rows.
use Rattle.std.proofs.Common.{◌≡◌, ◌≢◌, ℕ, Bool, true, false, not, cond, Some, List, [], ◌∷◌, refl, sym, ap, ◌∙◌, slice_get, zero, suc}
use Rattle.std.proofs.lemmas.Bool.{false≢true}
use Rattle.std.proofs.lemmas.Cmp.{then_total, on_total, tied_itself}
use Rattle.std.proofs.lemmas.Slice.Eq.{bytes_eq-Decides}
use Rattle.std.specs.Cmp.{IsTotalOrder, Equal-is}
use Rattle.std.specs.List.{AllByRecursion}
use Rattle.std.specs.Ordering.{ordering_then, ordering_reverse, is_lt, is_ne}
use Rattle.std.specs.Str.{bytes_eq}
use Rattle.std.specs.declared.cmp.Ordering.{Ordering}
use Rattle.std.specs.declared.cmp.Ordering.TheVariants.{Less, Equal, Greater}
use Rattle.rx_value.proofs.Ordered.{text_total, text_ties}
use Rattle.rx_value.specs.Named.{named}
use Rattle.rx_value.specs.Order.{order_of, text_cmp}
use Rattle.rx_value.specs.declared.value.Value.TheVariants.{Text}
use Rattle.rx_value.proofs.Orderings.{less_is, then_first}
use Rattle.rx_query.proofs.Orders.{sorts_total, sorts_decide, key_decides}
use Rattle.rx_query.specs.QuerySpec.{QuerySpec}
use Rattle.rx_query.specs.Lists.{some_passes, insert_in_order}
use Rattle.rx_query.specs.Order.{sorts_cmp, query_cmp}
use Rattle.rx_query.specs.States.{precedes, ties, is_match}
use Rattle.rx_query.specs.declared.results.Row.{Row}
use Rattle.rx_actions.proofs.Changes.{Query, Keys, IsLawful}

-- rows are told apart by their ids
abbrev pub row_keys : Keys Row (List ℕ)
row_keys = record { key = λ r. r.id; same = bytes_eq }

-- by the sort's fields in turn, and then by the id
abbrev pub row_cmp : QuerySpec → Row → Row → Ordering
row_cmp q x y = ordering_then (sorts_cmp q.sorts x.fields y.fields) (text_cmp x.id y.id)

-- the query over rows
abbrev pub rows_query : QuerySpec → Query Row
rows_query q = record {
  matches = λ r. is_match q r.fields;
  before = λ x y. is_lt (row_cmp q x y);
  alike = λ x y. ties q x.fields y.fields;
  skip = q.skip;
  limit = q.limit;
}

-- ---- it is total

-- as each of its parts
pub row_total : (q : QuerySpec) → IsTotalOrder (row_cmp q)
row_total q =
    then_total (on_total (λ (r : Row). r.fields) (sorts_total q.sorts))
    (on_total (λ (r : Row). r.id) text_total)

-- what doesn't tie stands one way round
one_way : (o : Ordering) → (o ≡ Equal → ⊥) → is_lt (ordering_reverse o) ≡ not (is_lt o)
one_way Less h = refl
one_way Equal h = absurd (h refl)
one_way Greater h = refl

-- both of two orders in turn tie
then_second : (a b : Ordering) → ordering_then a b ≡ Equal → b ≡ Equal
then_second Equal b h = h
then_second Less b h = cc
then_second Greater b h = cc

-- rows of other ids don't tie
apart : (q : QuerySpec) (x y : Row) → bytes_eq x.id y.id ≡ false → row_cmp q y x ≡ Equal → ⊥
apart q x y n tie =
    false≢true (sym n ∙ (bytes_eq-Decides x.id y.id).1
    (sym (text_ties y.id x.id (then_second (sorts_cmp q.sorts y.fields x.fields)
    (text_cmp y.id x.id) tie))))

-- rows of one id that no sort field tells apart do
tie : (q : QuerySpec) (x y : Row) → ties q x.fields y.fields ≡ true → x.id ≡ y.id
    → row_cmp q x y ≡ Equal
tie q x y h e =
    ap (λ o. ordering_then o (text_cmp x.id y.id))
    ((Equal-is (sorts_cmp q.sorts x.fields y.fields)).0 h)
    ∙ ap (λ k. text_cmp k y.id) e ∙ tied_itself text_total y.id

-- the laws
pub lawful : (q : QuerySpec) → q.limit ≢ Some 0 → IsLawful row_keys (rows_query q)
lawful q some =
    let total = row_total q in
    record {
      limited = some;
      same_refl = λ k. (bytes_eq-Decides k k).1 refl;
      same_eq = λ k l e. (bytes_eq-Decides k l).0 e;
      trans = λ x y z h k.
          ap is_lt (total.trans x y z (less_is (row_cmp q x y) h) (less_is (row_cmp q y z) k));
      either = λ x y n. ap is_lt (total.antisymm x y) ∙ one_way (row_cmp q y x) (apart q x y n);
      alike_before = λ x y z h e. ap is_lt (total.congr x y z (tie q x y h e));
    }

-- ---- it is the order of the query

-- the row carries its id as its primary key
abbrev pub Carries : QuerySpec → Row → Type 0
Carries q r = named r.fields q.primary ≡ Some (Text r.id)

-- one that doesn't leaves it to the next
then_next : (a b : Ordering) → is_ne a ≡ false → ordering_then a b ≡ b
then_next Less b h = absurd (false≢true (sym h))
then_next Equal b h = refl
then_next Greater b h = absurd (false≢true (sym h))

-- two rows stand the same way by both
pub agrees : (q : QuerySpec) (x y : Row) → Carries q x → Carries q y
    → query_cmp q x.fields y.fields ≡ row_cmp q x y
agrees q x y at_x at_y =
    let first = sorts_cmp q.sorts x.fields y.fields in
    let ids = text_cmp x.id y.id in
    (elim (is_ne first) as (λ b. is_ne first ≡ b → query_cmp q x.fields y.fields ≡ row_cmp q x y) [
      | true ↦ (λ h. sorts_decide q x.fields y.fields h ∙ sym (then_first first ids h))
      | false ↦ (λ h.
          key_decides q x.fields y.fields h
          ∙ ap (λ v. order_of v (named y.fields q.primary)) at_x
          ∙ ap (order_of (Some (Text x.id))) at_y ∙ sym (then_next first ids h))
    ]) refl

-- so rows are put in the same place
pub placed_agrees : (q : QuerySpec) (x : Row) (rows : List Row) → Carries q x
    → AllByRecursion (Carries q) rows
    → insert_in_order (λ a b. precedes q a.fields b.fields) x rows
    ≡ insert_in_order (rows_query q).before x rows
placed_agrees q x [] at all = refl
placed_agrees q x (y ∷ ys) at all =
    ap (λ b. cond b (x ∷ y ∷ ys) (y ∷ insert_in_order (λ a c. precedes q a.fields c.fields) x ys))
    (ap is_lt (agrees q x y at all.0))
    ∙ ap (λ zs. cond ((rows_query q).before x y) (x ∷ y ∷ ys) (y ∷ zs))
    (placed_agrees q x ys at all.1)

-- tests that agree on such rows agree on the row at a place
pub passes_agree : (q : QuerySpec) (p p' : Row → Bool) → ((r : Row) → Carries q r → p r ≡ p' r)
    → (rows : List Row) → AllByRecursion (Carries q) rows → (k : ℕ)
    → some_passes p (slice_get rows k) ≡ some_passes p' (slice_get rows k)
passes_agree q p p' same [] all k = refl
passes_agree q p p' same (r ∷ rows) all zero = same r all.0
passes_agree q p p' same (r ∷ rows) all (suc k) = passes_agree q p p' same rows all.1 k
