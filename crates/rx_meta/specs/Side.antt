-- What a fork knows of its master.
use Rattle.std.specs.Prelude.{◌≡◌, ℕ, List, Bool, Option}
use Rattle.std.specs.List.{AllByRecursion, list_all}
use Rattle.std.specs.Ordering.{is_lt}
use Rattle.rx_value.specs.Named.{AreRising}
use Rattle.rx_value.specs.Order.{text_cmp}
use Rattle.rx_value.specs.declared.state.State.{State}
use Rattle.rx_document.specs.declared.place.Place.{Place}

-- the known states with their keys, by rising key, and the checkpoints of pushing and of pulling
pub record Side : Type 0 where
  pub known : List (List ℕ × State)
  pub up : Option Place
  pub down : Option Place

-- of those states and those checkpoints
abbrev pub side_with : List (List ℕ × State) → Option Place → Option Place → Side
side_with known up down = record { known = known; up = up; down = down }

-- the keys rise, and each state stands under its key
pub record AreKnownByKey (known : List (List ℕ × State)) : Type 0 where
  pub rising : AreRising known
  pub keyed : AllByRecursion (λ e. e.1.key ≡ e.0) known

-- the key is above those of the known states
abbrev pub is_above_known : List (List ℕ × State) → List ℕ → Bool
is_above_known known key = list_all (λ e. is_lt (text_cmp e.0 key)) known
