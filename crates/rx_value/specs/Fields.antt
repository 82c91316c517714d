-- Fields as a list of pairs of name and value, by rising name.
use Rattle.std.specs.Prelude.{◌≡◌, ℕ, List, true}
use Rattle.std.specs.List.{AllByRecursion}
use Rattle.rx_value.specs.Named.{AreRising}
use Rattle.rx_value.specs.Value.{is_value}
use Rattle.rx_value.specs.declared.value.Value.{Value}

-- a name and its value
abbrev pub Pair : Type 0
Pair = List ℕ × Value

-- fields, whose values are found by `named` and set by `put_in_order`
abbrev pub Pairs : Type 0
Pairs = List Pair

-- the names rise, and the numbers are in range
pub record AreFields (ps : Pairs) : Type 0 where
  pub rising : AreRising ps
  pub in_range : AllByRecursion (λ p. is_value p.1 ≡ true) ps
