-- What a clock in memory tells.
use Rattle.std.specs.Prelude.{ℕ, ◌-◌, zero, suc, List, [], ◌∷◌, ◌++◌, length, min, slice_index}
use Rattle.rx_outside.specs.declared.memory_clock.MemoryClock.{MemoryClock}

-- the moment that call i gives, counted from 0: those of the list in turn and then the last, or 0
abbrev pub moment_at : List ℕ → ℕ → ℕ
moment_at moments i = slice_index moments (min i (length moments - 1))

-- the moments that so many calls give
abbrev pub moments_until : List ℕ → ℕ → List ℕ
moments_until moments zero = []
moments_until moments (suc n) = moments_until moments n ++ moment_at moments n ∷ []

-- the list that it goes through
abbrev pub clock_moments : MemoryClock → List ℕ
clock_moments clock = clock.moments.items

-- how many calls were made
abbrev pub clock_count : MemoryClock → ℕ
clock_count clock = clock.count

-- the moments given so far
abbrev pub clock_given : MemoryClock → List ℕ
clock_given clock = moments_until clock.moments.items clock.count
