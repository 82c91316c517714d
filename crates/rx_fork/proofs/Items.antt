-- What is taken of nothing, and what a look-up lends.
use Rattle.std.proofs.Common.{◌≡◌, ℕ, zero, suc, [], take, Option, Some, None, option_map, option_copied, refl}
use Rattle.std.specs.Borrow.{Bor}

-- of nothing nothing is taken
pub take_nil : {A : Type 0} (n : ℕ) → take {A = A} n [] ≡ []
take_nil zero = refl
take_nil (suc n) = refl

-- what a look-up lends
pub lent : {A : Type 0} (r : Option (Bor A)) → option_map (λ x. x.now) r ≡ option_copied r
lent None = refl
lent (Some x) = refl
