-- Bytes as numbers: words of two halves, and what they tell of all bytes.
use Rattle.std.proofs.Common.{◌≡◌, ℕ, ◌+◌, ◌*◌, ◌<◌, ◌≤◌, List, length, get_or, min, refl, ap, ◌∙◌, sym, arith}
use Rattle.std.specs.Cmp.{ranks}
use Rattle.std.specs.Cmp.Lexicographic.{slice_cmp}
use Rattle.std.specs.Ordering.{nat_cmp, ordering_then, MatchOrdering}
use Rattle.std.specs.Simd.Lanes.{chunk}
use Rattle.std.specs.Slice.Scan.{big_endian, Settles}
use Rattle.std.specs.declared.cmp.Ordering.{Ordering}
use Rattle.std.specs.declared.cmp.Ordering.TheVariants.{Less, Equal, Greater}
use Rattle.core.proofs.cmp.Settled.{by_lengths, four_are, eight_are}

-- where the numbers are of all bytes that both have, they decide, and then the lengths
pub decided : (xs ys : List ℕ) (n x y : ℕ) → n ≡ min (length xs) (length ys) → Settles xs ys n x y
    → ordering_then (nat_cmp x y) (nat_cmp (length xs) (length ys)) ≡ slice_cmp nat_cmp xs ys
decided xs ys n x y both s = by (nat_cmp x y) refl (ranks x y)
  where
    by : (o : Ordering) → nat_cmp x y ≡ o → MatchOrdering o (x < y) (x ≡ y) (y < x)
        → ordering_then o (nat_cmp (length xs) (length ys)) ≡ slice_cmp nat_cmp xs ys
    by Less is l = let below : x < y = l in sym (s.apart (λ e. omega arith) ∙ is)
    by Equal is l = by_lengths xs ys n _ both (s.alike l) refl
    by Greater is l = let above : y < x = l in sym (s.apart (λ e. omega arith) ∙ is)

-- a word is its two halves
pub halves_are : (xs : List ℕ) (i x y : ℕ) → i + 8 ≤ length xs
    → x ≡ big_endian 0 (chunk i 4 xs) → y ≡ big_endian 0 (chunk (i + 4) 4 xs)
    → x * 4294967296 + y ≡ big_endian 0 (chunk i 8 xs)
halves_are xs i x y within first second =
    let front = four_are xs i (omega arith) in
    let back = four_are xs (i + 4) (omega arith) in
    let fifth : get_or xs (i + 4 + 1) 0 ≡ get_or xs (i + 5) 0 =
    ap (λ k. get_or xs k 0) (omega arith) in
    let sixth : get_or xs (i + 4 + 2) 0 ≡ get_or xs (i + 6) 0 =
    ap (λ k. get_or xs k 0) (omega arith) in
    let seventh : get_or xs (i + 4 + 3) 0 ≡ get_or xs (i + 7) 0 =
    ap (λ k. get_or xs k 0) (omega arith) in
    omega (arith, first, second, front, back, fifth, sixth, seventh, eight_are xs i within)
