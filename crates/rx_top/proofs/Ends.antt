-- What is kept of a line.
use Rattle.std.proofs.Common.{◌≡◌, ◌∙◌, sym, ap, ℕ, ◌+◌, ◌≤◌, List, [], ◌∷◌, ◌++◌, ◌-◌, take, min, length, arith, inl, inr}
use Rattle.std.proofs.lemmas.Bool.Decides.{leb_tells}
use Rattle.std.proofs.lemmas.List.{take_all, take_min, take-append-le, length-take-le}
use Rattle.std.proofs.Math.Seq.{take-append-add, take-length}
use Rattle.rx_script.specs.Line.{max_line_bytes}
use Rattle.rx_top.specs.Reader.{kept_front}

-- bytes more of a line
pub kept_more : (a b : List ℕ) → length a ≤ max_line_bytes + 1
    → a ++ take ((max_line_bytes + 1) - length a) b ≡ kept_front (a ++ b)
kept_more a b h =
    let count : length a + ((max_line_bytes + 1) - length a) ≡ max_line_bytes + 1 = omega arith in
    sym (take-append-add a b ((max_line_bytes + 1) - length a)) ∙ ap (λ n. take n (a ++ b)) count

pub kept_split : (a b : List ℕ) (n : ℕ) → length a ≤ max_line_bytes + 1
    → n ≡ min ((max_line_bytes + 1) - length a) (length b)
    → a ++ take n b ≡ kept_front (a ++ b)
kept_split a b n h e =
    ap (λ k. a ++ take k b) e ∙ ap (λ v. a ++ v) (take_min ((max_line_bytes + 1) - length a) b)
    ∙ kept_more a b h

short : (a b : List ℕ) → length a ≤ max_line_bytes + 1
    → kept_front (kept_front a ++ b) ≡ kept_front (a ++ b)
short a b h = ap (λ v. kept_front (v ++ b)) (take_all (max_line_bytes + 1) a h)

long : (a b : List ℕ) → max_line_bytes + 1 ≤ length a
    → kept_front (kept_front a ++ b) ≡ kept_front (a ++ b)
long a b h =
    let whole : length (kept_front a)
    ≡ max_line_bytes + 1 = length-take-le (max_line_bytes + 1) a h in
    take-append-le (max_line_bytes + 1) (kept_front a) b (omega (arith, whole))
    ∙ (ap (λ n. take n (kept_front a)) (sym whole) ∙ take-length (kept_front a))
    ∙ sym (take-append-le (max_line_bytes + 1) a b h)

-- what is kept tells what will be kept
pub kept_kept : (a b : List ℕ) → kept_front (kept_front a ++ b) ≡ kept_front (a ++ b)
kept_kept a b = elim (leb_tells (length a) (max_line_bytes + 1))
    [ inl w ↦ short a b w.1 | inr w ↦ long a b (omega (arith, w.1)) ]

-- a piece of one byte
pub one_byte : (xs rest old : List ℕ) → length xs ≡ 1 → old ≡ xs ++ rest
    → (b : ℕ) × (old ≡ b ∷ rest)
one_byte [] rest old one e = cc
one_byte (b ∷ []) rest old one e = (b, e)
one_byte (b ∷ c ∷ xs) rest old one e = cc
