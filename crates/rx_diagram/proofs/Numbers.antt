-- Numbers of given bits.
use Rattle.std.proofs.Common.{◌≡◌, ◌≢◌, ℕ, zero, suc, ◌+◌, ◌-◌, ◌*◌, ◌^◌, ◌<◌, ◌≤◌, inl, inr, Bool, true, false, eqb, sym, ap, ◌∙◌, arith}
use Rattle.std.proofs.lemmas.Nat.Bits.{bit_at-suc, bit_at_lowest, bit_at_above, bit_at_cat_low, bit_at_cat_high}
use Rattle.std.proofs.lemmas.Bool.{cases_eq}
use Rattle.std.specs.Int.{bit_at}
use Rattle.rx_table.specs.States.{is_set}
use Rattle.rx_table.proofs.Bits.{half, odd, small_step}
use Rattle.rx_diagram.specs.Asked.{number}

-- ---- the number of answers

-- each answer is at its place
pub bit-number : (t : ℕ) (b : ℕ → Bool) (j : ℕ) → j < t → is_set (number t b) j ≡ b j
unfolding number
bit-number zero b j lt = absurd (omega arith)
bit-number (suc t) b zero lt = ap (λ k. eqb k 1) (bit_at_lowest (number (suc t) b))
    ∙ odd (b 0) (number t (λ j. b (suc j)))
bit-number (suc t) b (suc j) lt =
    let rest = number t (λ i. b (suc i)) in
    ap (λ k. eqb k 1) (bit_at-suc (number (suc t) b) j)
    ∙ ap (λ (v : ℕ). is_set v j) (half (b 0) rest)
    ∙ bit-number t (λ i. b (suc i)) j (omega arith)

-- as powers do
pub pow-suc : (t : ℕ) → 2 ^ suc t ≡ 2 * 2 ^ t
pow-suc t = omega arith

-- so many answers stay below that power
pub number-small : (t : ℕ) (b : ℕ → Bool) → number t b < 2 ^ t
unfolding number
number-small zero b = omega arith
number-small (suc t) b = rw (pow-suc t) (small_step (b 0) (number t (λ j. b (suc j))) (2 ^ t)
    (number-small t (λ j. b (suc j))))

-- no bit above
pub bit-above : (n k i : ℕ) → n < 2 ^ k → k ≤ i → is_set n i ≡ false
bit-above n k i lt le = ap (λ v. eqb v 1) (bit_at_above n k i lt le)

-- a bit added above the others
pub bit-low : (n k i : ℕ) → i < k → is_set (n + 2 ^ k) i ≡ is_set n i
bit-low n k i lt = ap (λ (v : ℕ). is_set v i) (let e : n + 2 ^ k ≡ 1 * 2 ^ k + n = omega arith in e)
    ∙ ap (λ v. eqb v 1) (bit_at_cat_low 1 k n i lt)

-- it is set
pub bit-here : (n k : ℕ) → n < 2 ^ k → is_set (n + 2 ^ k) k ≡ true
bit-here n k lt =
    let e : n + 2 ^ k ≡ 1 * 2 ^ k + n = omega arith in
    let z : k - k ≡ 0 = omega arith in
    ap (λ (v : ℕ). is_set v k) e ∙ ap (λ v. eqb v 1) (bit_at_cat_high 1 k n k lt (omega arith))
    ∙ ap (λ j. eqb (bit_at 1 j) 1) z

-- and the others are as they were
pub bit-other : (n k i : ℕ) → n < 2 ^ k → i ≢ k → is_set (n + 2 ^ k) i ≡ is_set n i
bit-other n k i small ne = elim (cases_eq (suc i - k) 0) [
  | inl e ↦ bit-low n k i (omega arith)
  | inr e ↦ bit-above (n + 2 ^ k) (suc k) i (rw (pow-suc k) (omega arith)) (omega arith)
      ∙ sym (bit-above n k i small (omega arith))
]
