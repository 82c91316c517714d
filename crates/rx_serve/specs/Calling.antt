-- What a call over a wire gives.
use Rattle.std.specs.Prelude.{◌≡◌, ℕ, ◌≤◌, ◌<◌, List, [], ◌∷◌, ◌++◌, length, true, Option, Some, None}
use Rattle.rx_wire.specs.Limits.{longest_line}
use Rattle.rx_serve.specs.Lines.{is_within}

-- the first line of what the wire had left, which has now what stands behind its end
pub record IsFirstLine (line old new : List ℕ) : Type 0 where
  pub front : old ≡ line ++ 10 ∷ new
  pub within : is_within line ≡ true
  pub short : length line ≤ longest_line

-- what the wire had left ended before a line did
pub record IsNoLine (old new : List ℕ) : Type 0 where
  pub within : is_within old ≡ true
  pub short : length old ≤ longest_line
  pub none : new ≡ []

-- one byte more than a line may have was given, and no line ends in them
pub record IsTooLong (old new : List ℕ) : Type 0 where
  pub given : List ℕ
  pub front : old ≡ given ++ new
  pub within : is_within given ≡ true
  pub long : longest_line < length given

-- no line ends in what was given
pub record IsPart (old new : List ℕ) : Type 0 where
  pub given : List ℕ
  pub front : old ≡ given ++ new
  pub within : is_within given ≡ true

-- the next byte of what the wire had left, or its end
abbrev pub IsNextByte : Option ℕ → List ℕ → List ℕ → Type 0
IsNextByte None old new = (old ≡ []) × (new ≡ [])
IsNextByte (Some byte) old new = old ≡ byte ∷ new
