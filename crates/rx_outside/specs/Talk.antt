-- What went over a wire, as the door or dial knows it to which the wire was handed back.
use Rattle.std.specs.Prelude.{ℕ, List, Bool, nat_lt, if◌then◌else◌}
use Rattle.rx_outside.specs.Failed.{one_more}

-- the bytes that the wire gave, those that it had left, those that it was sent, and whether one of
-- its calls failed
pub record Talk : Type 0 where
  pub given : List ℕ
  pub left : List ℕ
  pub sent : List ℕ
  pub failed : Bool

-- that of a wire with this count
abbrev pub talk : List ℕ → List ℕ → List ℕ → ℕ → Talk
talk given left sent faults =
    record { given = given; left = left; sent = sent; failed = nat_lt 0 faults }

-- the number of wires that failed, after one with this count
abbrev pub broken_after : ℕ → ℕ → ℕ
broken_after broken faults = if nat_lt 0 faults then one_more broken else broken
