-- Lists walked by their places: what one step tells of what is left.
use Rattle.std.proofs.Common.{◌≡◌, ℕ, ◌+◌, Bool, true, false, Some, List, drop, refl, sym, ap, ◌∙◌, slice_get}
use Rattle.std.proofs.lemmas.Bool.{false≢true}
use Rattle.std.specs.List.{list_any}
use Rattle.std.specs.Ordering.{ordering_then, ordering_reverse, is_eq, is_ne}
use Rattle.std.specs.declared.cmp.Ordering.{Ordering}
use Rattle.std.specs.declared.cmp.Ordering.TheVariants.{Less, Equal, Greater}
use Rattle.rx_value.specs.Fields.{Pairs}
use Rattle.rx_value.proofs.Lists.{drop_at}
use Rattle.rx_query.specs.QuerySpec.{Sorts}
use Rattle.rx_query.specs.Order.{field_cmp, sort_cmp, sorts_cmp}

module _ {X : Type 0} (p : X → Bool) (xs : List X) (i : ℕ) (x : X) (at : slice_get xs i ≡ Some x)
  where
    -- one that fails leaves it to those after it
    pub any_next : p x ≡ false → list_any p (drop i xs) ≡ list_any p (drop (i + 1) xs)
    any_next fails = rw (drop_at xs i x at, fails) refl

    -- one that passes tells
    pub any_found : p x ≡ true → list_any p (drop i xs) ≡ true
    any_found passes = rw (drop_at xs i x at, passes) refl

-- a reversed order ties where the order does
reverse_ties : (o : Ordering) → is_eq (ordering_reverse o) ≡ is_eq o
reverse_ties Less = refl
reverse_ties Equal = refl
reverse_ties Greater = refl

-- so does a field, reversed or not
field_ties : (name : List ℕ) (desc : Bool) (a b : Pairs)
    → is_eq (sort_cmp name desc a b) ≡ is_eq (field_cmp name a b)
field_ties name true a b = reverse_ties (field_cmp name a b)
field_ties name false a b = refl

-- after a tie the next order tells
then_ties : (o r : Ordering) → is_eq o ≡ true → is_eq (ordering_then o r) ≡ is_eq r
then_ties Less r h = absurd (false≢true h)
then_ties Equal r h = refl
then_ties Greater r h = absurd (false≢true h)

-- what doesn't tie first doesn't tie
then_apart : (o r : Ordering) → is_eq o ≡ false → is_eq (ordering_then o r) ≡ false
then_apart Less r h = refl
then_apart Equal r h = absurd (false≢true (sym h))
then_apart Greater r h = refl

-- no difference is a tie
pub no_difference : (o : Ordering) → is_ne o ≡ false → is_eq o ≡ true
no_difference Less h = absurd (false≢true (sym h))
no_difference Equal h = refl
no_difference Greater h = absurd (false≢true (sym h))

-- and a difference is none
pub difference : (o : Ordering) → is_ne o ≡ true → is_eq o ≡ false
difference Less h = refl
difference Equal h = absurd (false≢true h)
difference Greater h = refl

module _ (ss : Sorts) (i : ℕ) (s : List ℕ × Bool) (at : slice_get ss i ≡ Some s) (a b : Pairs) where
  -- a field that ties leaves it to those after it
  pub ties_next : is_ne (field_cmp s.0 a b) ≡ false
      → is_eq (sorts_cmp (drop i ss) a b) ≡ is_eq (sorts_cmp (drop (i + 1) ss) a b)
  ties_next h =
      ap (λ rest. is_eq (sorts_cmp rest a b)) (drop_at ss i s at)
      ∙ then_ties (sort_cmp s.0 s.1 a b) (sorts_cmp (drop (i + 1) ss) a b)
      (field_ties s.0 s.1 a b ∙ no_difference (field_cmp s.0 a b) h)

  -- one that doesn't tells
  pub ties_not : is_ne (field_cmp s.0 a b) ≡ true → is_eq (sorts_cmp (drop i ss) a b) ≡ false
  ties_not h =
      ap (λ rest. is_eq (sorts_cmp rest a b)) (drop_at ss i s at)
      ∙ then_apart (sort_cmp s.0 s.1 a b) (sorts_cmp (drop (i + 1) ss) a b)
      (field_ties s.0 s.1 a b ∙ difference (field_cmp s.0 a b) h)
