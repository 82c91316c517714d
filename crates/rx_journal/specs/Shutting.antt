-- How many calls failed where a gate that wasn't opened isn't shut again.
use Rattle.std.specs.Prelude.{ℕ}
use Rattle.rx_outside.specs.Failed.{Rises}

-- a count of failures rose, and then rose again
abbrev pub RisesTwice : ℕ → ℕ → Type 0
RisesTwice old new = (between : ℕ) × Rises old between × Rises between new
