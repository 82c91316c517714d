-- What holds of each line of a script.
use Rattle.std.specs.Prelude.{◌≡◌, ℕ, List, false}
use Rattle.rx_engine.specs.Kept.{IsInOrder, IsLineKept, IsWellMeant}
use Rattle.rx_engine.specs.Lines.{task}
use Rattle.rx_engine.specs.Standing.{Standing}
use Rattle.rx_top.specs.Lines.{is_blank}

-- of a line, from how things stand before it to how they stand after it
pub record IsTurnKept (line : List ℕ) (s next : Standing) : Type 0 where
  -- no exchange of a turn loses an update, so many of them are enough, no master elsewhere harms a
  -- fork, and where something of a fork is to be pushed a delivery to it writes nothing
  pub meant : IsWellMeant line s
  -- what it comes to may be done
  pub in_order : IsInOrder (task s.kinds line s.session) s.session
  -- where a turn or a sweep ends quiet, or a delivery is answered level, forks and masters have the
  -- same states
  pub kept : IsLineKept line s next.session.world

-- of each line that isn't blank
abbrev pub HoldsOfTurn : ℕ → List ℕ → Standing → Standing → Type 0
HoldsOfTurn n line s next = is_blank line ≡ false → IsTurnKept line s next
