-- The numbers that a value may hold, and its text.
use Rattle.std.specs.Prelude.{ℕ, ℤ, pos, negsuc, ◌-◌, int_le, Bool, true, false, ◌&&◌, List, Option, Some, None}
use Rattle.std.specs.Str.{bytes_eq}
use Rattle.rx_value.specs.declared.value.Value.{Value}
use Rattle.rx_value.specs.declared.value.Value.TheVariants.{Flag, Int, Text}

-- 2^53 - 1
abbrev pub largest : ℕ
largest = 9007199254740991

-- from -(2^53 - 1) to 2^53 - 1
abbrev pub is_number : ℤ → Bool
is_number z = int_le (negsuc (largest - 1)) z && int_le z (pos largest)

-- a number is in that range
abbrev pub is_value : Value → Bool
is_value (Flag b) = true
is_value (Int z) = is_number z
is_value (Text s) = true

-- there is that text
abbrev pub is_text : List ℕ → Option Value → Bool
is_text key (Some (Text t)) = bytes_eq t key
is_text key _ = false

-- the text that there is
abbrev pub text_of : Option Value → Option (List ℕ)
text_of (Some (Text t)) = Some t
text_of _ = None
