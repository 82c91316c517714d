-- The order of values: missing, flags, numbers, texts.
use Rattle.std.specs.Prelude.{◌≡◌, ◌↔◌, ℕ, List, Option}
use Rattle.std.specs.Cmp.{IsTotalOrder}
use Rattle.std.specs.Cmp.Lexicographic.{slice_cmp}
use Rattle.std.specs.Option.{option_cmp}
use Rattle.std.specs.Ordering.{bool_cmp, int_cmp, nat_cmp}
use Rattle.std.specs.declared.cmp.Ordering.{Ordering}
use Rattle.std.specs.declared.cmp.Ordering.TheVariants.{Less, Equal, Greater}
use Rattle.rx_value.specs.declared.value.Value.{Value}
use Rattle.rx_value.specs.declared.value.Value.TheVariants.{Flag, Int, Text}

-- two texts, byte by byte
abbrev pub text_cmp : List ℕ → List ℕ → Ordering
text_cmp = slice_cmp nat_cmp

-- flags with false first, then numbers, then texts
abbrev pub value_cmp : Value → Value → Ordering
value_cmp (Flag a) (Flag b) = bool_cmp a b
value_cmp (Flag a) (Int b) = Less
value_cmp (Flag a) (Text b) = Less
value_cmp (Int a) (Flag b) = Greater
value_cmp (Int a) (Int b) = int_cmp a b
value_cmp (Int a) (Text b) = Less
value_cmp (Text a) (Flag b) = Greater
value_cmp (Text a) (Int b) = Greater
value_cmp (Text a) (Text b) = text_cmp a b

-- a missing value comes first
abbrev pub order_of : Option Value → Option Value → Ordering
order_of = option_cmp value_cmp

-- it is a total order
abbrev pub OrderIsTotal : Type 0
OrderIsTotal = IsTotalOrder order_of

-- and exactly equal values tie
abbrev pub TiesAreEqual : Type 0
TiesAreEqual = (a b : Option Value) → (order_of a b ≡ Equal) ↔ (a ≡ b)
