-- The limits of messages.
use Rattle.std.specs.Prelude.{◌≤◌, ℕ}
use Rattle.rx_value.specs.Value.{largest}

-- the most bytes of a line
abbrev pub longest_line : ℕ
longest_line = 268435456

-- the most states, and the most rows, of a message
abbrev pub most_states : ℕ
most_states = 100

-- a number of an epoch, of a request or of a write: from 1 to 2^53 - 1
pub record IsCount (n : ℕ) : Type 0 where
  pub low : 1 ≤ n
  pub high : n ≤ largest
