-- A number with one bit more at its low end.
use Rattle.std.proofs.Common.{◌≡◌, ℕ, ◌+◌, ◌*◌, ◌/◌, ◌%◌, ◌<◌, Bool, true, false, eqb, cond, refl, arith}

-- what is left of it after that bit
pub half : (b : Bool) (n : ℕ) → (cond b 1 0 + 2 * n) / 2 ≡ n
half true n = omega arith
half false n = omega arith

-- that bit
pub odd : (b : Bool) (n : ℕ) → eqb ((cond b 1 0 + 2 * n) % 2) 1 ≡ b
odd true n = let r : (1 + 2 * n) % 2 ≡ 1 = omega arith in rw r refl
odd false n = let r : (0 + 2 * n) % 2 ≡ 0 = omega arith in rw r refl

-- one bit more doubles the range
pub small_step : (b : Bool) (n p : ℕ) → n < p → cond b 1 0 + 2 * n < 2 * p
small_step true n p lt = omega arith
small_step false n p lt = omega arith
