-- Texts of one line.
use Rattle.std.specs.Prelude.{ℕ, List, Bool, not, ◌==◌}
use Rattle.std.specs.List.{list_all}

-- no line feed
abbrev pub is_in_line : ℕ → Bool
is_in_line byte = not (byte == 10)

-- a text without a line feed
abbrev pub is_one_line : List ℕ → Bool
is_one_line = list_all is_in_line
