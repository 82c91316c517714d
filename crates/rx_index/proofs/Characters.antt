-- No byte of a text is near the largest.
use Rattle.std.proofs.Common.{◌≡◌, ℕ, zero, suc, ◌<◌, length, get_or, Bool, true, ◌&&◌, nat_lt, List, [], ◌∷◌, ◌++◌, refl, ap, subst, ◌∙◌, arith}
use Rattle.std.proofs.Math.Logic.{⊎_elim}
use Rattle.std.proofs.Math.Utf8.{encode, encodes, scalar, scalars, scalar_cases}
use Rattle.std.proofs.lemmas.Bool.{and_parts, ltb-true}
use Rattle.std.proofs.lemmas.Bool.Decides.{nat_tests}
use Rattle.std.specs.List.{list_all}
use Rattle.std.specs.Str.{IsUtf8}

abbrev is_low : ℕ → Bool
is_low b = nat_lt b 245

one : (c : ℕ) → c < 1114112 → list_all is_low (encode c) ≡ true
unfolding encode
one c h = grind (arith, nat_tests)

within : (c : ℕ) → scalar c ≡ true → c < 1114112
within c h = ⊎_elim (λ k. omega arith) (λ k. k.1) (scalar_cases c h)

both : (xs ys : List ℕ) → list_all is_low xs ≡ true → list_all is_low ys ≡ true
    → list_all is_low (xs ++ ys) ≡ true
both [] ys h k = k
both (x ∷ xs) ys h k =
    let parts = and_parts (is_low x) (list_all is_low xs) h in
    ap (λ b. b && list_all is_low (xs ++ ys)) parts.0 ∙ both xs ys parts.1 k

each : (cs : List ℕ) → scalars cs ≡ true → list_all is_low (encodes cs) ≡ true
each [] h = refl
each (c ∷ cs) h =
    let parts = and_parts (scalar c) (scalars cs) h in
    both (encode c) (encodes cs) (one c (within c parts.0)) (each cs parts.1)

are_low : (s : List ℕ) → IsUtf8 s → list_all is_low s ≡ true
are_low s u = subst (λ bs. list_all is_low bs ≡ true) u.1.1 (each u.0 u.1.0)

pub low_at : (s : List ℕ) → IsUtf8 s → (i d : ℕ) → i < length s → get_or s i d < 245
low_at s u = at s (are_low s u)
  where
    at : (s : List ℕ) → list_all is_low s ≡ true → (i d : ℕ) → i < length s → get_or s i d < 245
    at [] h i d k = absurd (omega arith)
    at (x ∷ xs) h zero d k = ltb-true x 245 (and_parts (is_low x) (list_all is_low xs) h).0
    at (x ∷ xs) h (suc i) d k =
        at xs (and_parts (is_low x) (list_all is_low xs) h).1 i d (omega arith)
