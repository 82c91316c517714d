-- Taking one line after another of what is to come.
use Rattle.rx_serve.specs.Lines.{is_within}
use Rattle.std.specs.Prelude.{◌≡◌, ◌≢◌, ℕ, ◌+◌, ◌≤◌, List, [], ◌∷◌, ◌++◌, take, length, Bool, true, false, ◌==◌, if◌then◌else◌}
use Rattle.rx_script.specs.Line.{max_line_bytes}
use Rattle.rx_top.specs.declared.early_end.ReadFault.{ReadFault}
use Rattle.rx_top.specs.declared.early_end.ReadFault.TheVariants as fault
use Rattle.rx_top.specs.declared.reader.Next.{Next}
use Rattle.rx_top.specs.declared.reader.Next.TheVariants.{Line, Last, End}

-- the most bytes that an input may have, 4 GiB
abbrev pub max_input_bytes : ℕ
max_input_bytes = 4294967296

-- the most bytes that are asked for at once
abbrev pub max_piece_bytes : ℕ
max_piece_bytes = 65536

-- what is kept of a line: enough to tell that it is too long
abbrev pub kept_front : List ℕ → List ℕ
kept_front line = take (max_line_bytes + 1) line

-- what a reader holds: what it kept of the present line, the bytes that it read and that belong to
-- no line yet, and how many bytes it was given
pub record Reading : Type 0 where
  pub line : List ℕ
  pub unread : List ℕ
  pub given : ℕ

pub record IsInBounds (at piece line given : ℕ) : Type 0 where
  pub at_within : at ≤ piece
  pub piece_within : piece ≤ max_piece_bytes
  pub line_kept : line ≤ max_line_bytes + 1
  pub given_within : given ≤ max_input_bytes

-- what there is at the end of an input
abbrev pub rest_of : List ℕ → Next
rest_of line = if length line == 0 then End else Last

-- a line that ended was taken; or the last one, which did not end; or there was none
abbrev pub Takes : Next → List ℕ → List ℕ → List ℕ → Type 0
Takes Line line old new = (old ≡ line ++ 10 ∷ new) × (is_within line ≡ true)
Takes Last line old new = (old ≡ line) × (is_within line ≡ true) × (line ≢ []) × (new ≡ [])
Takes End line old new = (old ≡ []) × (new ≡ [])

-- a line was taken of what was to come, and is kept
abbrev pub TakesKept : Next → List ℕ → List ℕ → List ℕ → Type 0
TakesKept next line old new = (l : List ℕ) × (line ≡ kept_front l) × Takes next l old new

-- no line ended in what was taken
abbrev pub StopsWithin : List ℕ → List ℕ → Type 0
StopsWithin old new = (front : List ℕ) × (old ≡ front ++ new) × (is_within front ≡ true)

-- no line ended in what was taken, but one may in what was read ahead, which is a piece at most
abbrev pub StopsAhead : List ℕ → List ℕ → Type 0
StopsAhead old new =
    (ahead : List ℕ) × (length ahead ≤ max_piece_bytes) × StopsWithin old (ahead ++ new)

-- what was taken where the next line can't be had: no line ended in it; and one byte more was given
-- than an input may have; or memory is wanting
abbrev pub StopsBy : ReadFault → List ℕ → List ℕ → Type 0
StopsBy fault.Failed old new = StopsWithin old new
StopsBy fault.TooLong old new = (b : ℕ) × StopsWithin old (b ∷ new)
StopsBy fault.Memory old new = StopsAhead old new

-- a front of what was to come went to the line
abbrev pub Comes : List ℕ → List ℕ → List ℕ → Type 0
Comes line old new = (front : List ℕ) × (old ≡ front ++ new) × (is_within front ≡ true)
    × (line ≡ kept_front front)

-- so many bytes of what was left were given
abbrev pub Took : ℕ → List ℕ → List ℕ → (ℕ → Type 0) → Type 0
Took given old new P = (taken : List ℕ) × (old ≡ taken ++ new) × P (given + length taken)

-- what was read went to the line, up to its end where that was there
abbrev pub Advances : Bool → Reading → Reading → Type 0
Advances true old new =
    (l : List ℕ) × (old.unread ≡ l ++ 10 ∷ new.unread) × (is_within l ≡ true)
    × (new.line ≡ kept_front (old.line ++ l))
Advances false old new =
    (new.unread ≡ []) × (is_within old.unread ≡ true)
    × (new.line ≡ kept_front (old.line ++ old.unread))

-- a line that ended in what was read was taken, and is kept
abbrev pub TakesRead : Reading → Reading → Type 0
TakesRead old new = (l : List ℕ) × (old.unread ≡ l ++ 10 ∷ new.unread) × (is_within l ≡ true)
    × (new.line ≡ kept_front l)
