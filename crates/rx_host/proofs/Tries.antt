-- A door that was given up in a later part of a run.
use Rattle.std.proofs.Common.{◌≡◌, ℕ, ◌≤◌, ◌+◌, min, inl, inr, arith}
use Rattle.std.proofs.Math.Nat.{min-eq_left, min-eq_right, min-le_left, min-le_right}
use Rattle.std.proofs.lemmas.Bool.{cases_lt}
use Rattle.rx_outside.specs.Failed.{last_count}
use Rattle.rx_host.specs.Outside.{HasGivenUp}

raised : (tries most before mid now : ℕ) → before ≤ mid → min (mid + tries) most ≤ now
    → min (before + tries) most ≤ now
raised tries most before mid now le risen =
    let low = min-le_left (before + tries) most in
    let high = min-le_right (before + tries) most in
    elim (cases_lt (mid + tries) most) [
      | inl less ↦
          let is : min (mid + tries) most ≡ mid + tries = min-eq_left (omega (arith, less)) in
          omega (arith, le, risen, low, is)
      | inr past ↦
          let is : min (mid + tries) most ≡ most = min-eq_right past in
          omega (arith, risen, high, is)
    ]

-- was given up in the whole
pub given_up_later : (before mid now : ℕ) → before ≤ mid → HasGivenUp mid now
    → HasGivenUp before now
given_up_later before mid now le risen = raised 64 last_count before mid now le risen
