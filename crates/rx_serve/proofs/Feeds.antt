-- Where a line ends.
use Rattle.std.proofs.Common.{◌≡◌, ◌∙◌, refl, sym, ap, ℕ, zero, suc, ◌≤◌, true, not, ◌==◌, List, [], ◌∷◌, ◌++◌, take, length, Option, None, Some, IfNone, IfSome, arith, inl, inr}
use Rattle.std.proofs.lemmas.Bool.Decides.{eqb_tells}
use Rattle.std.proofs.Math.Seq.{take-length}
use Rattle.std.proofs.lemmas.Bool.{and_parts, and_from, false_from_ne_true, not_from_false}
use Rattle.memchr.specs.Find.{is_byte, Passes, Nowhere, IsFirstByte}
use Rattle.rx_serve.specs.Lines.{is_within}

-- bytes before the first line feed
within_take : (n : ℕ) (xs : List ℕ) → Nowhere (Passes (is_byte 10) xs) 0 n → n ≤ length xs
    → is_within (take n xs) ≡ true
within_take zero xs h fits = refl
within_take (suc n) [] h fits = refl
within_take (suc n) (x ∷ xs) h fits =
    and_from (not (x == 10)) (is_within (take n xs))
    (not_from_false (x == 10)
    (false_from_ne_true (x == 10) (λ e. h 0 (omega arith) (omega arith) e)))
    (within_take n xs (λ k low high. h (suc k) (omega arith) (omega arith)) (omega arith))

within_all : (xs : List ℕ) → Nowhere (Passes (is_byte 10) xs) 0 (length xs) → is_within xs ≡ true
within_all xs h = ap is_within (sym (take-length xs)) ∙ within_take (length xs) xs h (omega arith)

-- what a search for a line feed tells
pub none_within : (xs : List ℕ) (r : Option ℕ) → IsFirstByte (is_byte 10) xs r
    → IfNone r (is_within xs ≡ true)
none_within xs None h = within_all xs h
none_within xs (Some at) h = tt

pub some_within : (xs : List ℕ) (r : Option ℕ) → IsFirstByte (is_byte 10) xs r
    → IfSome r (λ at. is_within (take at xs) ≡ true)
some_within xs None h = tt
some_within xs (Some at) h = within_take at xs h.0.before (omega (arith, h.0.high))

-- bytes with no line feed, one part after another
pub within-append : (xs ys : List ℕ) → is_within xs ≡ true → is_within ys ≡ true
    → is_within (xs ++ ys) ≡ true
within-append [] ys h g = g
within-append (x ∷ xs) ys h g =
    let parts = and_parts (not (x == 10)) (is_within xs) h in
    rw parts.0 (within-append xs ys parts.1 g)

-- one other byte
pub within_byte : (b : ℕ) → (b ≡ 10 → ⊥) → is_within (b ∷ []) ≡ true
within_byte b h = elim (eqb_tells b 10) [ inl w ↦ absurd (h w.1) | inr w ↦ rw w.0 refl ]
