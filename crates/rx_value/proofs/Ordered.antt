-- The order of values is total, and only equal values tie.
use Rattle.std.proofs.Common.{◌≡◌, ℕ, List, Bool, true, false, Option, Some, None, refl, sym, ap, ◌∙◌}
use Rattle.std.proofs.lemmas.Bool.Decides.{Decides-int_eq}
use Rattle.std.proofs.lemmas.Cmp.{int_cmp_total, nat_list_cmp_total, tied_itself}
use Rattle.std.proofs.lemmas.Map.Lookups.{exact_bytes}
use Rattle.std.specs.Cmp.{IsTotalOrder, bool_cmp_total}
use Rattle.std.specs.Cmp.Lexicographic.{options_total}
use Rattle.std.specs.Ordering.{bool_cmp, ordering_reverse, is_eq}
use Rattle.std.specs.declared.cmp.Ordering.TheVariants.{Less, Equal}
use Rattle.rx_value.specs.Order.{text_cmp, value_cmp, order_of, OrderIsTotal, TiesAreEqual}
use Rattle.rx_value.specs.declared.value.Value.{Value}
use Rattle.rx_value.specs.declared.value.Value.TheVariants.{Flag, Int, Text}

-- texts are in total order
pub text_total : IsTotalOrder text_cmp
text_total = nat_list_cmp_total

-- texts that tie are equal
pub text_ties : (a b : List ℕ) → text_cmp a b ≡ Equal → a ≡ b
text_ties = exact_bytes

-- values compare the other way round
value_antisymm : (x y : Value) → value_cmp x y ≡ ordering_reverse (value_cmp y x)
value_antisymm (Flag a) (Flag b) = bool_cmp_total.antisymm a b
value_antisymm (Int a) (Int b) = int_cmp_total.antisymm a b
value_antisymm (Text a) (Text b) = text_total.antisymm a b
value_antisymm _ _ = refl

-- what is below a lower value is below
value_trans : (x y z : Value) → value_cmp x y ≡ Less → value_cmp y z ≡ Less → value_cmp x z ≡ Less
value_trans (Flag a) (Flag b) (Flag c) h k = bool_cmp_total.trans a b c h k
value_trans (Int a) (Int b) (Int c) h k = int_cmp_total.trans a b c h k
value_trans (Text a) (Text b) (Text c) h k = text_total.trans a b c h k
value_trans (Flag a) (Flag b) (Int c) h k = refl
value_trans (Flag a) (Flag b) (Text c) h k = refl
value_trans (Flag a) (Int b) (Int c) h k = refl
value_trans (Flag a) (Int b) (Text c) h k = refl
value_trans (Flag a) (Text b) (Text c) h k = refl
value_trans (Int a) (Int b) (Text c) h k = refl
value_trans (Int a) (Text b) (Text c) h k = refl
value_trans _ _ _ h k = cc

-- values that tie compare alike
value_congr : (x y z : Value) → value_cmp x y ≡ Equal → value_cmp x z ≡ value_cmp y z
value_congr (Flag a) (Flag b) (Flag c) h = bool_cmp_total.congr a b c h
value_congr (Int a) (Int b) (Int c) h = int_cmp_total.congr a b c h
value_congr (Text a) (Text b) (Text c) h = text_total.congr a b c h
value_congr _ _ _ h = cc

-- values are in total order
pub value_total : IsTotalOrder value_cmp
value_total = record { antisymm = value_antisymm; trans = value_trans; congr = value_congr }

-- flags that tie are equal
pub flag_ties : (a b : Bool) → bool_cmp a b ≡ Equal → a ≡ b
flag_ties true true h = refl
flag_ties false false h = refl
flag_ties _ _ h = cc

-- values that tie are equal
pub value_ties : (x y : Value) → value_cmp x y ≡ Equal → x ≡ y
value_ties (Flag a) (Flag b) h = ap Flag (flag_ties a b h)
value_ties (Int a) (Int b) h = ap Int ((Decides-int_eq a b).0 (ap is_eq h))
value_ties (Text a) (Text b) h = ap Text (text_ties a b h)
value_ties _ _ h = cc

-- with missing ones too they are in total order
pub order_total : OrderIsTotal
order_total = options_total value_total

-- those that tie are equal
tied : (a b : Option Value) → order_of a b ≡ Equal → a ≡ b
tied None None h = refl
tied (Some a) (Some b) h = ap Some (value_ties a b h)
tied _ _ h = cc

-- and exactly equal ones tie
pub order_ties : TiesAreEqual
order_ties a b = (tied a b, λ h. ap (order_of a) (sym h) ∙ tied_itself order_total a)
