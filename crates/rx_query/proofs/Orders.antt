-- The order of a query is total, and decides between documents that carry different keys.
use Rattle.std.proofs.Common.{◌≡◌, ℕ, Bool, true, false, cond, Some, List, [], ◌∷◌, is_some, refl, sym, ap, ◌∙◌}
use Rattle.std.proofs.lemmas.Bool.{false≢true}
use Rattle.std.proofs.lemmas.Cmp.{then_total, on_total}
use Rattle.std.proofs.lemmas.Slice.Eq.{bytes_eq-Decides}
use Rattle.std.specs.Cmp.{IsTotalOrder}
use Rattle.std.specs.Ordering.{ordering_then, ordering_reverse, is_ne}
use Rattle.std.specs.Str.{bytes_eq}
use Rattle.std.specs.declared.cmp.Ordering.{Ordering}
use Rattle.std.specs.declared.cmp.Ordering.TheVariants.{Less, Equal, Greater}
use Rattle.rx_value.proofs.Ordered.{order_total, text_ties}
use Rattle.rx_value.specs.Fields.{Pairs}
use Rattle.rx_value.specs.Named.{named}
use Rattle.rx_value.specs.Order.{order_of, text_cmp}
use Rattle.rx_value.specs.declared.value.Value.TheVariants.{Text}
use Rattle.rx_value.proofs.Orderings.{both_tie, then_first}
use Rattle.rx_query.specs.QuerySpec.{Sorts, QuerySpec}
use Rattle.rx_query.specs.Order.{field_cmp, sort_cmp, sorts_cmp, query_cmp, QueriesOrder, KeysDecide}

-- ---- it is total

-- an order and its reverse
module _ {X : Type 0} {cmp : X → X → Ordering} (o : IsTotalOrder cmp) where
  -- what ties one way round ties the other
  tie_back : (x y : X) → ordering_reverse (cmp x y) ≡ Equal → cmp x y ≡ Equal
  tie_back x y h = o.antisymm x y ∙ ap ordering_reverse (o.antisymm y x ∙ h)

  pub reverse_total : IsTotalOrder (λ x y. ordering_reverse (cmp x y))
  reverse_total = record {
    antisymm = λ x y. ap ordering_reverse (o.antisymm x y);
    trans = λ x y z h k.
        sym (o.antisymm z x) ∙ o.trans z y x (o.antisymm z y ∙ k) (o.antisymm y x ∙ h);
    congr = λ x y z h. ap ordering_reverse (o.congr x y z (tie_back x y h));
  }

-- by one field
field_total : (name : List ℕ) → IsTotalOrder (field_cmp name)
field_total name = on_total (λ (x : Pairs). named x name) order_total

-- perhaps reversed
sort_total : (name : List ℕ) (desc : Bool) → IsTotalOrder (sort_cmp name desc)
sort_total name true = reverse_total (field_total name)
sort_total name false = field_total name

-- where all tie
level_total : IsTotalOrder (λ (x y : Pairs). Equal)
level_total =
    record { antisymm = λ x y. refl; trans = λ x y z h k. h; congr = λ x y z h. refl }

-- by fields in turn
pub sorts_total : (ss : Sorts) → IsTotalOrder (sorts_cmp ss)
sorts_total [] = level_total
sorts_total (s ∷ ss) = then_total (sort_total s.0 s.1) (sorts_total ss)

-- one of two orders
either_total : {X : Type 0} (b : Bool) (P Q : X → X → Ordering) → IsTotalOrder P → IsTotalOrder Q
    → IsTotalOrder (λ x y. cond b (P x y) (Q x y))
either_total true P Q p q = p
either_total false P Q p q = q

-- and then by the primary key
pub query_total : QueriesOrder
query_total q =
    either_total (is_some (named q.sorts q.primary)) (sorts_cmp q.sorts)
    (λ x y. ordering_then (sorts_cmp q.sorts x y) (field_cmp q.primary x y)) (sorts_total q.sorts)
    (then_total (sorts_total q.sorts) (field_total q.primary))

-- ---- what ties has one primary key

-- a tie by a field, perhaps reversed
field_tie : (name : List ℕ) (desc : Bool) (x y : Pairs) → sort_cmp name desc x y ≡ Equal
    → field_cmp name x y ≡ Equal
field_tie name true x y h = tie_back (field_total name) x y h
field_tie name false x y h = h

-- a sort that holds a field ties only where the field does
pub held_tie : (ss : Sorts) (key : List ℕ) (x y : Pairs) → is_some (named ss key) ≡ true
    → sorts_cmp ss x y ≡ Equal → field_cmp key x y ≡ Equal
held_tie [] key x y held h = absurd (false≢true held)
held_tie (s ∷ ss) key x y held h =
    let parts = both_tie (sort_cmp s.0 s.1 x y) (sorts_cmp ss x y) h in
    (elim (bytes_eq key s.0) as (λ b. bytes_eq key s.0 ≡ b
    → is_some (cond b (Some s.1) (named ss key)) ≡ true → field_cmp key x y ≡ Equal) [
      | true ↦ (λ e _. rw ((bytes_eq-Decides key s.0).0 e) (field_tie s.0 s.1 x y parts.0))
      | false ↦ (λ e rest. held_tie ss key x y rest parts.1)
    ]) refl held

-- what is no difference is a tie
tie_is : (a : Ordering) → is_ne a ≡ false → a ≡ Equal
tie_is Less h = cc
tie_is Equal h = refl
tie_is Greater h = cc

-- the order of a query, as a test of its sort tells
abbrev by_sorts : Bool → QuerySpec → Pairs → Pairs → Ordering
by_sorts b q x y =
    cond b (sorts_cmp q.sorts x y) (ordering_then (sorts_cmp q.sorts x y) (field_cmp q.primary x y))

-- it is by the sort's fields where these decide
pub sorts_decide : (q : QuerySpec) (x y : Pairs) → is_ne (sorts_cmp q.sorts x y) ≡ true
    → query_cmp q x y ≡ sorts_cmp q.sorts x y
sorts_decide q x y h =
    elim (is_some (named q.sorts q.primary)) as (λ b. by_sorts b q x y ≡ sorts_cmp q.sorts x y)
    [ true ↦ refl | false ↦ then_first (sorts_cmp q.sorts x y) (field_cmp q.primary x y) h ]

-- and else by the primary key
pub key_decides : (q : QuerySpec) (x y : Pairs) → is_ne (sorts_cmp q.sorts x y) ≡ false
    → query_cmp q x y ≡ field_cmp q.primary x y
key_decides q x y h =
    let tie = tie_is (sorts_cmp q.sorts x y) h in
    (elim (is_some (named q.sorts q.primary)) as (λ b. is_some (named q.sorts q.primary) ≡ b
    → by_sorts b q x y ≡ field_cmp q.primary x y) [
      | true ↦ (λ held. tie ∙ sym (held_tie q.sorts q.primary x y held tie))
      | false ↦ (λ _. ap (λ o. ordering_then o (field_cmp q.primary x y)) tie)
    ]) refl

-- what ties has one primary key
key_tie : (q : QuerySpec) (x y : Pairs) → query_cmp q x y ≡ Equal → field_cmp q.primary x y ≡ Equal
key_tie q x y =
    (elim (is_some (named q.sorts q.primary)) as (λ b. is_some (named q.sorts q.primary) ≡ b
    → by_sorts b q x y ≡ Equal → field_cmp q.primary x y ≡ Equal) [
      | true ↦ (λ held h. held_tie q.sorts q.primary x y held h)
      | false ↦ (λ _ h. (both_tie (sorts_cmp q.sorts x y) (field_cmp q.primary x y) h).1)
    ]) refl

-- so documents that carry different keys don't tie
pub keys_decide : KeysDecide
keys_decide q x y k l at_x at_y apart h =
    let tie : text_cmp k l ≡ Equal =
    ap (λ v. order_of v (Some (Text l))) (sym at_x) ∙ ap (order_of (named x q.primary)) (sym at_y)
    ∙ key_tie q x y h in
    apart (text_ties k l tie)
