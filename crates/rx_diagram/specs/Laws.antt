-- That the asked questions are one number.
use Rattle.std.specs.Prelude.{◌≡◌, ℕ}
use Rattle.rx_diagram.specs.Asked.{IsAsked, asked_of}

-- the number of the asked questions is such, and no other is
pub record IsTheAsked (bits : ℕ) : Type 0 where
  pub is_asked : IsAsked bits (asked_of bits)
  pub no_other : (asked : ℕ) → IsAsked bits asked → asked ≡ asked_of bits

-- so it is for any answers
abbrev pub AskedAreDetermined : Type 0
AskedAreDetermined = (bits : ℕ) → IsTheAsked bits
