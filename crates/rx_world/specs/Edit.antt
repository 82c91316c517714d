-- What a function does to the holder of a name.
use Rattle.std.specs.Prelude.{◌≡◌, ℕ, List, Bool, false, Some}
use Rattle.std.specs.Borrow.{MutBor}
use Rattle.std.specs.Fn.{Once, FnOnceReturnsAtMut}
use Rattle.rx_value.specs.Named.{named, change_named}
use Rattle.rx_collection.specs.Held.{Held}

-- the function, called on a holder, leaves its collection
abbrev pub Leaves : {H F R : Type 0} → (H → Held)
    → Once F (MutBor H × Unit {0}) (R × (MutBor H × Unit {0})) → F → H → Type 0
Leaves {H} {F} {R} held g f h =
    (r : R) (after : H) → FnOnceReturnsAtMut g f h r after → held after ≡ held h

-- and leaves it not broken
abbrev pub LeavesWhole : {H F R : Type 0} → (H → Bool)
    → Once F (MutBor H × Unit {0}) (R × (MutBor H × Unit {0})) → F → H → Type 0
LeavesWhole {H} {F} {R} broken g f h =
    (r : R) (after : H) → FnOnceReturnsAtMut g f h r after → broken after ≡ false

-- the function was called on the holder of the name, and what it left is there
pub record Edited {H F R : Type 0} (g : Once F (MutBor H × Unit {0}) (R × (MutBor H × Unit {0})))
    (f : F) (name : List ℕ) (before after : List (List ℕ × H)) (r : R) : Type 0 where
  pub old : H
  pub new : H
  pub there : named before name ≡ Some old
  pub met : FnOnceReturnsAtMut g f old r new
  pub left : after ≡ change_named before name (λ h. new)
