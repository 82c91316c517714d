-- Numbers compare as their bytes do, and texts as their raised bytes.
use Rattle.std.proofs.Common.{◌≡◌, ℕ, ℤ, pos, negsuc, ◌+◌, ◌*◌, ◌%◌, ◌^◌, ◌<◌, ◌≤◌, true, List, [], ◌∷◌, ◌++◌, zero, suc, Less, Equal, Greater, refl, sym, ap, subst, ◌∙◌, arith}
use Rattle.std.proofs.Math.Arith.{mod-mul}
use Rattle.std.proofs.Math.Nat.{add-mul, mul-le-mul_right, mod-eq_of_lt, mod-lt, pow-succ'}
use Rattle.std.proofs.lemmas.Bool.Decides.{nat_tests}
use Rattle.std.proofs.lemmas.Cmp.{int_cmp_total}
use Rattle.std.proofs.lemmas.Int.{ints}
use Rattle.std.specs.Cmp.{ranks, nat_cmp_is}
use Rattle.std.specs.Int.{byte_len, bytes_high_first, byte_at, to_be_bytes}
use Rattle.std.specs.Ordering.{nat_cmp, int_cmp, ordering_reverse, ordering_then, MatchOrdering}
use Rattle.std.specs.declared.cmp.Ordering.{Ordering}
use Rattle.rx_value.specs.Order.{text_cmp}
use Rattle.rx_index.specs.Packed.{number_kind, width_of, counted, digits, raised_text, has_64_bits}

then_assoc : (a b c : Ordering)
    → ordering_then (ordering_then a b) c ≡ ordering_then a (ordering_then b c)
then_assoc Less b c = refl
then_assoc Equal b c = refl
then_assoc Greater b c = refl

-- ---- a higher digit decides before the rest

lower : (x y a b c d p : ℕ) → a < p → c < p → x ≡ b * p + a → y ≡ d * p + c → b < d → x < y
lower x y a b c d p ha hc hx hy h =
    let k : (b + 1) * p ≤ d * p = mul-le-mul_right p (omega arith) in
    omega (arith, add-mul b 1 p)

alike : (x y a b c d p : ℕ) → x ≡ b * p + a → y ≡ d * p + c → b ≡ d → nat_cmp x y ≡ nat_cmp a c
alike x y a b c d p hx hy h =
    (elim (nat_cmp a c) as (λ r. MatchOrdering r (a < c) (a ≡ c) (c < a) → nat_cmp x y ≡ r) [
      | Less ↦ (λ k. sym (nat_cmp_is x y Less (omega (arith, ap (λ n. n * p) h))))
      | Equal ↦ (λ k. sym (nat_cmp_is x y Equal (omega (arith, ap (λ n. n * p) h))))
      | Greater ↦ (λ k. sym (nat_cmp_is x y Greater (omega (arith, ap (λ n. n * p) h))))
    ]) (ranks a c)

by_digits : (x y a b c d p : ℕ) → a < p → c < p → x ≡ b * p + a → y ≡ d * p + c
    → nat_cmp x y ≡ ordering_then (nat_cmp b d) (nat_cmp a c)
by_digits x y a b c d p ha hc hx hy =
    (elim (nat_cmp b d) as (λ r. MatchOrdering r (b < d) (b ≡ d) (d < b)
    → nat_cmp x y ≡ ordering_then r (nat_cmp a c)) [
      | Less ↦ (λ h. sym (nat_cmp_is x y Less (lower x y a b c d p ha hc hx hy h)))
      | Equal ↦ (λ h. alike x y a b c d p hx hy h)
      | Greater ↦ (λ h. sym (nat_cmp_is x y Greater (lower y x c d a b p hc ha hy hx h)))
    ]) (ranks b d)

power_above : (k : ℕ) → 0 < 256 ^ k
power_above zero = omega arith
power_above (suc k) = let h = power_above k in omega (arith, pow-succ' 256 k)

top_byte : (k a : ℕ) → a % 256 ^ suc k ≡ byte_at k a * 256 ^ k + a % 256 ^ k
top_byte zero a = omega arith
top_byte (suc k) a =
    ap (λ n. a % n) (pow-succ' 256 (suc k)) ∙ mod-mul a (omega arith) (power_above (suc k))

-- the low bytes of two numbers, the highest first
pub low_bytes : (k a b : ℕ) (r s : List ℕ)
    → text_cmp (bytes_high_first k a ++ r) (bytes_high_first k b ++ s)
    ≡ ordering_then (nat_cmp (a % 256 ^ k) (b % 256 ^ k)) (text_cmp r s)
low_bytes zero a b r s =
    ap (λ o. ordering_then o (text_cmp r s)) (nat_cmp_is (a % 1) (b % 1) Equal (omega arith))
low_bytes (suc k) a b r s =
    ap (ordering_then (nat_cmp (byte_at k a) (byte_at k b))) (low_bytes k a b r s)
    ∙ sym (then_assoc (nat_cmp (byte_at k a) (byte_at k b)) (nat_cmp (a % 256 ^ k) (b % 256 ^ k))
    (text_cmp r s))
    ∙ ap (λ o. ordering_then o (text_cmp r s))
    (sym (by_digits (a % 256 ^ suc k) (b % 256 ^ suc k) (a % 256 ^ k) (byte_at k a) (b % 256 ^ k)
    (byte_at k b) (256 ^ k) (mod-lt a (power_above k)) (mod-lt b (power_above k)) (top_byte k a)
    (top_byte k b)))

-- ---- numbers

-- a number's kind stands between those of a flag and of a text
from_zero : (n : ℕ) → (4 < number_kind (pos n)) × (number_kind (pos n) < 9)
from_zero n = grind (arith, nat_tests)

pub above_flags : (z : ℤ) → 3 < number_kind z
above_flags (pos n) = omega (arith, (from_zero n).0)
above_flags (negsuc n) = omega arith

pub below_texts : (z : ℤ) → number_kind z < 9
below_texts (pos n) = (from_zero n).1
below_texts (negsuc n) = omega arith

-- a lower kind is that of a lower number
kinds_apart : (a b : ℤ) → number_kind a < number_kind b → int_cmp a b ≡ Less
kinds_apart (pos n) (pos m) h = grind (arith, ints, nat_tests)
kinds_apart (pos n) (negsuc m) h = absurd (omega (arith, h, (from_zero n).0))
kinds_apart (negsuc n) (pos m) h = refl
kinds_apart (negsuc n) (negsuc m) h = absurd (omega (arith, h))

-- numbers of one kind compare as what is written of them
one_kind : (a b : ℤ) → has_64_bits a ≡ true → has_64_bits b ≡ true → number_kind a ≡ number_kind b
    → nat_cmp (counted a) (counted b) ≡ int_cmp a b
one_kind (pos n) (pos m) h k same = grind (arith, ints)
one_kind (pos n) (negsuc m) h k same = absurd (omega (arith, same, (from_zero n).0))
one_kind (negsuc n) (pos m) h k same = absurd (omega (arith, same, (from_zero m).0))
one_kind (negsuc n) (negsuc m) h k same = grind (arith, ints)

-- which as many bytes hold as the kind tells
counted_below : (z : ℤ) → has_64_bits z ≡ true
    → counted z < 256 ^ byte_len (width_of (number_kind z))
counted_below (pos n) h = grind (arith, nat_tests)
counted_below (negsuc n) h = omega arith

counted_fits : (z : ℤ) → has_64_bits z ≡ true
    → counted z % 256 ^ byte_len (width_of (number_kind z)) ≡ counted z
counted_fits z h = mod-eq_of_lt (counted_below z h)

-- a number's bytes decide before what follows them
pub numbers_alike : (a b : ℤ) (r q : List ℕ) → has_64_bits a ≡ true → has_64_bits b ≡ true
    → text_cmp (number_kind a ∷ digits a ++ r) (number_kind b ∷ digits b ++ q)
    ≡ ordering_then (int_cmp a b) (text_cmp r q)
numbers_alike a b r q h k =
    (elim (nat_cmp (number_kind a) (number_kind b)) as (λ o. MatchOrdering o
    (number_kind a < number_kind b) (number_kind a ≡ number_kind b) (number_kind b < number_kind a)
    → ordering_then o (text_cmp (digits a ++ r) (digits b ++ q))
    ≡ ordering_then (int_cmp a b) (text_cmp r q)) [
      | Less ↦ (λ low. sym (ap (λ o. ordering_then o (text_cmp r q)) (kinds_apart a b low)))
      | Equal ↦ of_one_kind
      | Greater ↦ (λ low. sym (ap (λ o. ordering_then o (text_cmp r q))
          (int_cmp_total.antisymm a b ∙ ap ordering_reverse (kinds_apart b a low))))
    ]) (ranks (number_kind a) (number_kind b))
  where
    of_one_kind : number_kind a ≡ number_kind b
        → text_cmp (digits a ++ r) (digits b ++ q) ≡ ordering_then (int_cmp a b) (text_cmp r q)
    of_one_kind same =
        ap (λ kind. text_cmp (digits a ++ r) (to_be_bytes (width_of kind) (counted b) ++ q))
        (sym same)
        ∙ low_bytes (byte_len (width_of (number_kind a))) (counted a) (counted b) r q
        ∙ ap (λ o. ordering_then o (text_cmp r q))
        ((λ i. nat_cmp (counted_fits a h i)
        (subst (λ kind. counted b % 256 ^ byte_len (width_of kind) ≡ counted b) (sym same)
        (counted_fits b k) i))
        ∙ one_kind a b h k same)

-- ---- raised texts, each with its end

above_end : (n : ℕ) → nat_cmp (n + 11) 0 ≡ Greater
above_end n = sym (nat_cmp_is (n + 11) 0 Greater (omega arith))

below_byte : (n : ℕ) → nat_cmp 0 (n + 11) ≡ Less
below_byte n = sym (nat_cmp_is 0 (n + 11) Less (omega arith))

both_raised : (n m : ℕ) → nat_cmp (n + 11) (m + 11) ≡ nat_cmp n m
both_raised n m =
    (elim (nat_cmp n m) as (λ r. MatchOrdering r (n < m) (n ≡ m) (m < n)
    → nat_cmp (n + 11) (m + 11) ≡ r) [
      | Less ↦ (λ k. sym (nat_cmp_is (n + 11) (m + 11) Less (omega arith)))
      | Equal ↦ (λ k. sym (nat_cmp_is (n + 11) (m + 11) Equal (omega arith)))
      | Greater ↦ (λ k. sym (nat_cmp_is (n + 11) (m + 11) Greater (omega arith)))
    ]) (ranks n m)

pub texts_alike : (s t r q : List ℕ)
    → text_cmp (raised_text s ++ 0 ∷ [] ++ r) (raised_text t ++ 0 ∷ [] ++ q)
    ≡ ordering_then (text_cmp s t) (text_cmp r q)
texts_alike [] [] r q = refl
texts_alike [] (y ∷ t) r q =
    ap (λ o. ordering_then o (text_cmp r (raised_text t ++ 0 ∷ [] ++ q))) (below_byte y)
texts_alike (x ∷ s) [] r q =
    ap (λ o. ordering_then o (text_cmp (raised_text s ++ 0 ∷ [] ++ r) q)) (above_end x)
texts_alike (x ∷ s) (y ∷ t) r q =
    ap (λ o. ordering_then o
    (text_cmp (raised_text s ++ 0 ∷ [] ++ r) (raised_text t ++ 0 ∷ [] ++ q))) (both_raised x y)
    ∙ ap (ordering_then (nat_cmp x y)) (texts_alike s t r q)
    ∙ sym (then_assoc (nat_cmp x y) (text_cmp s t) (text_cmp r q))
