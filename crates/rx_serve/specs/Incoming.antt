-- Taking one line after another of what is to come.
use Rattle.std.specs.Prelude.{◌≡◌, ℕ, ◌+◌, ◌<◌, ◌≤◌, List, [], ◌∷◌, ◌++◌, length, true, Option, Some, None}
use Rattle.rx_wire.specs.Limits.{longest_line}
use Rattle.rx_serve.specs.Lines.{is_within}
use Rattle.rx_serve.specs.declared.incoming.Next.{Next}
use Rattle.rx_serve.specs.declared.incoming.Next.TheVariants.{Line, TooLong, End}

-- what was received: the present line so far, and the bytes that belong to no line yet
pub record Received : Type 0 where
  pub line : List ℕ
  pub unread : List ℕ

pub record IsInBounds (at piece line : ℕ) : Type 0 where
  pub at_within : at ≤ piece
  pub line_within : line ≤ longest_line

-- A line was taken of what was to come; or more than a line may have came without an end; or
-- nothing more comes, and no line ends in what came.
abbrev pub IsNext : Next → List ℕ → List ℕ → List ℕ → Type 0
IsNext Line line old new = (old ≡ line ++ 10 ∷ new) × (is_within line ≡ true)
IsNext TooLong line old new =
    (front : List ℕ) × (rest : List ℕ) × (old ≡ front ++ rest) × (is_within front ≡ true)
    × (longest_line < length front)
IsNext End line old new = (is_within old ≡ true) × (length old ≤ longest_line)

-- what was received went to the line, up to its end where that was there, unless it is too much
abbrev pub Advances : Option Next → Received → Received → Type 0
Advances (Some Line) old new =
    (more : List ℕ) × (old.unread ≡ more ++ 10 ∷ new.unread) × (is_within more ≡ true)
    × (new.line ≡ old.line ++ more)
Advances (Some TooLong) old new =
    (more : List ℕ) × (rest : List ℕ) × (old.unread ≡ more ++ rest) × (is_within more ≡ true)
    × (longest_line < length old.line + length more)
Advances (Some End) old new = ⊥
Advances None old new =
    (new.unread ≡ []) × (is_within old.unread ≡ true) × (new.line ≡ old.line ++ old.unread)
    × (length new.line ≤ longest_line)

-- a front of what was to come went to the line, and no line ends in it
pub record Comes (line old new : List ℕ) : Type 0 where
  pub front : old ≡ line ++ new
  pub within : is_within line ≡ true
