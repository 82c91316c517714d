-- The lines of what a peer sends.
use Rattle.std.specs.Prelude.{ℕ, List, [], ◌∷◌, ◌++◌, length, Bool, not, ◌==◌, nat_lt, if◌then◌else◌}
use Rattle.std.specs.List.{list_all}
use Rattle.rx_wire.specs.Limits.{longest_line}

-- no line ends in them
abbrev pub is_within : List ℕ → Bool
is_within = list_all (λ b. not (b == 10))

-- the lines that ended, and what has come of the next one
pub record Cut : Type 0 where
  pub whole : List (List ℕ)
  pub rest : List ℕ

-- a byte more at the front
abbrev pub byte_before : ℕ → List (List ℕ) → List ℕ → Cut
byte_before b [] rest = record { whole = []; rest = b ∷ rest }
byte_before b (l ∷ ls) rest = record { whole = (b ∷ l) ∷ ls; rest = rest }

-- a line ends at a line feed, byte 10, which is not part of it
abbrev pub cut : List ℕ → Cut
cut [] = record { whole = []; rest = [] }
cut (b ∷ bs) =
    if b == 10 then record { whole = [] ∷ (cut bs).whole; rest = (cut bs).rest }
    else byte_before b (cut bs).whole (cut bs).rest

-- a rest counts as a line where it is too long for one
abbrev pub long_rest : List ℕ → List (List ℕ)
long_rest rest = if nat_lt longest_line (length rest) then rest ∷ [] else []

-- the lines
abbrev pub lines : List ℕ → List (List ℕ)
lines bytes = (cut bytes).whole ++ long_rest (cut bytes).rest
