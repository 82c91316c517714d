-- What is left of the lines, behind the first.
use Rattle.std.proofs.Common.{◌≡◌, ℕ, zero, suc, ◌-◌, ◌<◌, List, [], ◌∷◌, drop, None, refl, arith}
use Rattle.std.specs.Prelude.{slice_get}
use Rattle.rx_trial.specs.Drawing.{line}
use Rattle.rx_trial.specs.Lines.{drawn}

pub drop_past : {X : Type 0} (xs : List X) (i : ℕ) → slice_get xs i ≡ None → drop i xs ≡ []
drop_past [] zero e = refl
drop_past [] (suc i) e = refl
drop_past (x ∷ xs) zero e = cc
drop_past (x ∷ xs) (suc i) e = drop_past xs i e

pub drawn_first : (n x : ℕ) → 0 < n → drawn n x ≡ (line x).gives ∷ drawn (n - 1) (line x).state
drawn_first zero x some = absurd (omega arith)
drawn_first (suc n) x some = let e : suc n - 1 ≡ n = omega arith in rw e refl
