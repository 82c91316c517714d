-- Where the last line feed stands.
use Rattle.std.proofs.Common.{◌≡◌, ◌∙◌, refl, sym, ap, subst, ℕ, suc, ◌+◌, ◌-◌, ◌<◌, true, not, ◌==◌, List, [], ◌∷◌, ◌++◌, length, slice_index, Some, arith, inl, inr}
use Rattle.std.proofs.Math.Seq.{get_or-append_seam}
use Rattle.std.proofs.lemmas.Bool.{and_from, cases_lt, false_from_ne_true, false≢true, not_from_false}
use Rattle.std.proofs.lemmas.List.{get_or-append-add, length-append}
use Rattle.std.proofs.lemmas.List.Folds.{list_all_at}
use Rattle.memchr.specs.Find.{IsLastByte, Nowhere, Passes, is_byte}
use Rattle.rx_outside.specs.Waiting.{ends_none}

-- a search for a line feed found none
pub ends_nowhere : (xs : List ℕ) → Nowhere (Passes (is_byte 10) xs) 0 (length xs)
    → ends_none xs ≡ true
ends_nowhere [] h = refl
ends_nowhere (x ∷ xs) h =
    and_from (not (x == 10)) (ends_none xs)
    (not_from_false (x == 10)
    (false_from_ne_true (x == 10) (λ e. h 0 (omega arith) (omega arith) e)))
    (ends_nowhere xs (λ k low high. h (suc k) (omega arith) (omega arith)))

-- one among them
pub ends_one : (xs : List ℕ) (k : ℕ) → k < length xs → Passes (is_byte 10) xs k
    → ends_none xs ≡ true → ⊥
ends_one xs k within is none =
    false≢true (sym (list_all_at (λ b. not (b == 10)) xs k 0 within (ap not is)) ∙ none)

module _ (front rest : List ℕ) (k : ℕ) (h : IsLastByte (is_byte 10) (front ++ 10 ∷ rest) (Some k))
    (none : ends_none rest ≡ true)
  where
    long : length (front ++ 10 ∷ rest) ≡ length front + (1 + length rest)
    long = let whole = length-append front (10 ∷ rest) in omega (arith, whole)

    -- it isn't before the one that stands behind the front
    not_before : k < length front → ⊥
    not_before less =
        h.0.after (length front) (omega (arith, less)) (omega (arith, long))
        (ap (is_byte 10) (get_or-append_seam front 10 rest 0))

    -- nor in the rest
    not_behind : (j : ℕ) → k ≡ length front + suc j → ⊥
    not_behind j at =
        let high = h.0.high in
        ends_one rest j (omega (arith, at, long, high))
        (ap (is_byte 10) (sym (get_or-append-add front (10 ∷ rest) (suc j) 0))
        ∙ ap (λ n. is_byte 10 (slice_index (front ++ 10 ∷ rest) n)) (sym at) ∙ h.1) none

    is_seam : k ≡ length front
    is_seam = elim (cases_lt k (length front)) [
      | inl less ↦ absurd (not_before less)
      | inr le ↦ elim (cases_lt (length front) k) [
        | inl more ↦ absurd (not_behind (k - length front - 1) (omega (arith, more)))
        | inr same ↦ omega (arith, le, same)
      ]
    ]

    seam : length (front ++ 10 ∷ rest) - 1 - k ≡ length rest
    seam = let is = is_seam in omega (arith, is, long)

-- so many bytes stand behind it
pub behind : (xs front rest : List ℕ) (k : ℕ) → IsLastByte (is_byte 10) xs (Some k)
    → xs ≡ front ++ 10 ∷ rest → ends_none rest ≡ true → length xs - 1 - k ≡ length rest
behind xs front rest k h is none =
    ap (λ (bs : List ℕ). length bs - 1 - k) is
    ∙ seam front rest k (subst (λ (bs : List ℕ). IsLastByte (is_byte 10) bs (Some k)) is h) none
