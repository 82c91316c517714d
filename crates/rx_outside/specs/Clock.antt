-- What a clock gave.
use Rattle.std.specs.Prelude.{◌≡◌, ◌⊎◌, ℕ, ◌≤◌, List, [], ◌∷◌, ◌++◌, length}
use Rattle.rx_outside.specs.Failed.{last_count}

-- One more moment was given. A list as long as a count goes, which no run reaches, need not grow.
abbrev pub GivesMoment : List ℕ → List ℕ → ℕ → Type 0
GivesMoment old new moment = (new ≡ old ++ moment ∷ []) ⊎ (last_count ≤ length old)
