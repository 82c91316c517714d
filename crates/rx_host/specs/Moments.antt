-- The moments of pushes.
use Rattle.std.specs.Prelude.{◌≡◌, ◌⊎◌, ℕ, ◌+◌, ◌≤◌, List, [], ◌∷◌, ◌++◌, length}
use Rattle.rx_outside.specs.Failed.{last_count}
use Rattle.rx_wire.specs.declared.message.AskKind.{AskKind}
use Rattle.rx_wire.specs.declared.message.AskKind.TheVariants.{Push, Pull}

-- a push has a moment of its own, which joins those before, and a pull has none
abbrev pub HasMoment : AskKind → ℕ → List ℕ → List ℕ → Type 0
HasMoment (Push rows) now old new = new ≡ old ++ now ∷ []
HasMoment (Pull place batch) now old new = (now ≡ 0) × (new ≡ old)

-- These moments were given. Lists as long as a count goes, which no run reaches, need not tell.
abbrev pub GivesMoments : List ℕ → List ℕ → List ℕ → Type 0
GivesMoments old new moments =
    (new ≡ old ++ moments) ⊎ (last_count ≤ length old + length moments)

-- The moments that joined are those that a clock gave, and it gave no others.
pub record Ticks (tells : Type 0) (given given' moments moments' : List ℕ) : Type 0 where
  pub joined : List ℕ
  pub more : moments' ≡ moments ++ joined
  pub of_clock : tells → GivesMoments given given' joined
