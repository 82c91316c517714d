-- The operands of operators, or their fault.
use Rattle.std.specs.Prelude.{ℕ, ℤ, pos, List, [], ◌∷◌, not, Option, Some, None, Result, Ok}
use Rattle.std.specs.Ordering.{int_eq}
use Rattle.serde_json.specs.Data.{Data, boolean, string, Items, no_items, item}
use Rattle.serde_json.specs.Find.{as_array, as_bool, as_integer, as_number}
use Rattle.rx_value.specs.Due.{◌>>◌, ◌>>=◌, lifted, only_if, or_fault}
use Rattle.rx_value.specs.Reading as reading
use Rattle.rx_value.specs.Value.{is_number}
use Rattle.rx_value.specs.declared.value.Value.{Value}
use Rattle.rx_value.specs.declared.value.Value.TheVariants.{Flag, Int, Text}
use Rattle.rx_selector.specs.Tree.{Test, exists, remainder}
use Rattle.rx_selector.specs.declared.fault.SelectorFault.{SelectorFault}
use Rattle.rx_selector.specs.declared.fault.SelectorFault.TheVariants.{Operand}

-- a whole number in range
abbrev pub whole : Data → Option ℤ
whole d = as_number d >>= as_integer >>= λ z. only_if (is_number z) (Some z)

-- a boolean, a text or a whole number in range
abbrev pub value_of : List ℕ → Data → Result Value SelectorFault
value_of name d = lifted (λ _. Operand name) (reading.value_of name d)

-- each a value
abbrev pub items_values : List ℕ → Items → Result (List Value) SelectorFault
items_values name no_items = Ok []
items_values name (item d ds) =
    value_of name d >> λ v. items_values name ds >> λ vs. Ok (v ∷ vs)

-- a list of values
abbrev pub values_of : List ℕ → Data → Result (List Value) SelectorFault
values_of name d = or_fault (Operand name) (as_array d) >> items_values name

-- a boolean
abbrev pub exists_of : List ℕ → Data → Result Test SelectorFault
exists_of name d = or_fault (Operand name) (as_bool d) >> λ b. Ok (exists b)

-- a list of a divisor, which is not 0, and a remainder
abbrev pub items_division : Items → Option (ℤ × ℤ)
items_division (item a (item b no_items)) =
    whole a >>= λ by. whole b >>= λ left. only_if (not (int_eq by (pos 0))) (Some (by, left))
items_division ds = None

-- such a list in JSON
abbrev pub division : Data → Option (ℤ × ℤ)
division d = as_array d >>= items_division

-- the test by these
abbrev pub remainder_of : List ℕ → Data → Result Test SelectorFault
remainder_of name d = or_fault (Operand name) (division d) >> λ p. Ok (remainder p.0 p.1)
