-- Places in a list, and what is put in and taken out there.
use Rattle.std.specs.Prelude.{◌≡◌, ◌≢◌, ◌<◌, ℕ, Bool, true, false, List, length, get_or, insert, remove, Option, Some, None}

-- the first one that passes the test stands at that place
pub record IsFirst {X : Type 0} (p : X → Bool) (xs : List X) (i : ℕ) : Type 0 where
  pub earlier : (k : ℕ) (other : X) → k < i → p (get_or xs k other) ≡ false
  pub here : (other : X) → p (get_or xs i other) ≡ true

-- the first one that passes stands there, or at the end none, one that is left out aside
pub record IsFirstBut {X : Type 0} (p : X → Bool) (xs : List X) (out i : ℕ) : Type 0 where
  pub earlier : (k : ℕ) (other : X) → k < i → k ≢ out → p (get_or xs k other) ≡ false
  pub here : (other : X) → i < length xs → p (get_or xs i other) ≡ true
  pub not_out : i < length xs → i ≢ out

-- with x put in at a place, and then the one at another place, if there is such, taken out
abbrev pub moved : {X : Type 0} → List X → ℕ → Option ℕ → X → List X
moved xs into None x = insert xs into x
moved xs into (Some out) x = remove (insert xs into x) out
