-- What a text is kept in, as its bytes.
use Rattle.std.specs.Prelude.{ℕ, List, string_bytes}
use Rattle.rx_value.specs.declared.rx_text.Kept.{Kept}
use Rattle.rx_value.specs.declared.rx_text.Kept.TheVariants.{Short, Long}

-- those of a short text, or of the string that is shared
abbrev pub kept_bytes : Kept → List ℕ
kept_bytes (Short text) = text
kept_bytes (Long text) = string_bytes text.value
