-- The lines of an input.
use Rattle.rx_serve.specs.Lines.{cut}
use Rattle.std.specs.Prelude.{ℕ, List, [], ◌∷◌, ◌++◌, length, Bool, ◌&&◌, ◌||◌, ◌==◌, nat_le}
use Rattle.std.specs.List.{list_all}
use Rattle.rx_script.specs.Line.{max_line_bytes}

-- a rest that is not empty is a last line
abbrev pub last_line : List ℕ → List (List ℕ)
last_line [] = []
last_line (b ∷ bs) = (b ∷ bs) ∷ []

abbrev pub lines : List ℕ → List (List ℕ)
lines input = (cut input).whole ++ last_line (cut input).rest

-- a space, a tab or a carriage return
abbrev pub is_space : ℕ → Bool
is_space b = (b == 32) || (b == 9) || (b == 13)

-- such a line counts, and says nothing
abbrev pub is_blank : List ℕ → Bool
is_blank line = nat_le (length line) max_line_bytes && list_all is_space line
