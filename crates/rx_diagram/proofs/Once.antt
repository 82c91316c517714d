-- There is one number of the asked questions, and the function gives it.
use Rattle.std.proofs.Common.{◌≡◌, ◌≢◌, ℕ, zero, suc, ◌+◌, ◌/◌, ◌<◌, ◌↔◌, ◌%◌, ◌^◌, inl, inr, Bool, true, false, not, eqb, ◌||◌, refl, sym, ap, ◌∙◌, subst, arith}
use Rattle.std.proofs.Math.Nat.{mod-lt}
use Rattle.std.proofs.Math.Pow.{split, pow-lt}
use Rattle.std.proofs.lemmas.Bool.{or_left, or_right, not-true, false≢true, eqb-true, and_from, cases_eq}
use Rattle.std.proofs.lemmas.Bool.Decides.{nat_tests}
use Rattle.std.proofs.lemmas.Nat.{pow_pos, xor_lt}
use Rattle.std.proofs.lemmas.Nat.Bits.{same_from_bits_below, bit_at-lt, bit_at_cat_low, bit_at_xor, bit_at-pow_same, bit_at-pow_other}
use Rattle.std.specs.Int.{bit_at}
use Rattle.std.specs.Int.Bits.{bit_xor}
use Rattle.std.specs.Cmp.{first_so, second_so}
use Rattle.rx_table.specs.Counts.{action_number}
use Rattle.rx_table.specs.Rows.{table_of}
use Rattle.rx_table.specs.States.{is_set}
use Rattle.rx_table.specs.declared.action.Action.{Action}
use Rattle.rx_diagram.specs.Asked.{Matters, IsAsked, any_below, same_action, tells, is_asked, asked_of}
use Rattle.rx_diagram.proofs.Apart.{same_place}
use Rattle.rx_diagram.proofs.Numbers.{bit-number, number-small}

-- a bit is told by what it stands for
same_bit : (P : Type 0) (x y : Bool) → x ≡ true ↔ P → y ≡ true ↔ P → x ≡ y
same_bit P true true h k = refl
same_bit P true false h k = sym (k.1 (h.0 refl))
same_bit P false true h k = h.1 (k.0 refl)
same_bit P false false h k = refl

-- bits are one where they are set alike
below_two : (x y : ℕ) → x < 2 → y < 2 → eqb x 1 ≡ eqb y 1 → x ≡ y
below_two x y lx ly h = grind (arith, nat_tests)

-- so the number is one
pub asked_once : (n a b : ℕ) → IsAsked n a → IsAsked n b → a ≡ b
asked_once n a b p q = same_from_bits_below 19 a b p.in_range q.in_range
    (λ i lt. below_two (bit_at a i) (bit_at b i) (bit_at-lt a i) (bit_at-lt b i)
    (same_bit (Matters n i) (is_set a i) (is_set b i) (p.exact i lt) (q.exact i lt)))

-- ---- the function gives it

-- a number that passes is among those below
below_any : (n : ℕ) (p : ℕ → Bool) (m : ℕ) → m < n → p m ≡ true → any_below n p ≡ true
unfolding any_below
below_any zero p m lt e = absurd (omega arith)
below_any (suc n) p m lt e = elim (cases_eq m n) [
  | inl same ↦ or_left (p n) (any_below n p) (ap p (sym same) ∙ e)
  | inr ne ↦ or_right (p n) (any_below n p) (below_any n p m (omega arith) e)
]

-- and where one is, there is such
any_gives : (n : ℕ) (p : ℕ → Bool) → any_below n p ≡ true → (m : ℕ) × (m < n) × (p m ≡ true)
unfolding any_below
any_gives zero p e = absurd (false≢true e)
any_gives (suc n) p e = among (p n) refl (any_gives n p)
  where
    among : (b : Bool) → p n ≡ b
        → (any_below n p ≡ true → (m : ℕ) × (m < n) × (p m ≡ true))
        → (m : ℕ) × (m < suc n) × (p m ≡ true)
    among true is rest = (n, omega arith, is)
    among false is rest =
        let m = rest (sym (ap (λ b. b || any_below n p) is) ∙ e) in
        (m.0, omega (arith, m.1), m.2)

-- ---- numbers that differ in one bit

-- bits before i are those of what i bits leave
bit_of_rest : (n i j : ℕ) → j < i → is_set n j ≡ is_set (n % 2 ^ i) j
bit_of_rest n i j lt =
    ap (λ (v : ℕ). is_set v j) (sym (split n i))
    ∙ ap (λ (v : ℕ). eqb v 1) (bit_at_cat_low (n / 2 ^ i) i (n % 2 ^ i) j lt)

-- one bit is that of the other number where both are set or both are not
same_bit_at : (a b j : ℕ) → is_set a j ≡ is_set b j → bit_at a j ≡ bit_at b j
same_bit_at a b j h = below_two (bit_at a j) (bit_at b j) (bit_at-lt a j) (bit_at-lt b j) h

-- numbers with the same bits before i leave the same
same_rest : (m n i : ℕ) → ((j : ℕ) → j < i → is_set m j ≡ is_set n j) → m % 2 ^ i ≡ n % 2 ^ i
same_rest m n i h =
    let some = pow_pos i in
    same_from_bits_below i (m % 2 ^ i) (n % 2 ^ i) (mod-lt m some) (mod-lt n some)
    (λ j lt. same_bit_at (m % 2 ^ i) (n % 2 ^ i) j
    (sym (bit_of_rest m i j lt) ∙ h j lt ∙ bit_of_rest n i j lt))

-- a bit with another added
flipped : (d : ℕ) → d < 2 → eqb ((d + 1) % 2) 1 ≡ not (eqb d 1)
flipped zero lt = refl
flipped (suc zero) lt = refl
flipped (suc (suc d)) lt = absurd (omega arith)

-- and with none
kept : (d : ℕ) → d < 2 → (d + 0) % 2 ≡ d
kept d lt = omega arith

-- the one bit is the other way
xor_here : (m i : ℕ) → is_set (bit_xor m (2 ^ i)) i ≡ not (is_set m i)
xor_here m i =
    ap (λ (v : ℕ). eqb v 1)
    (bit_at_xor m (2 ^ i) i ∙ ap (λ (v : ℕ). (bit_at m i + v) % 2) (bit_at-pow_same i))
    ∙ flipped (bit_at m i) (bit_at-lt m i)

-- the others are as they are
xor_other : (m i j : ℕ) → j ≢ i → is_set (bit_xor m (2 ^ i)) j ≡ is_set m j
xor_other m i j ne =
    ap (λ (v : ℕ). eqb v 1)
    (bit_at_xor m (2 ^ i) j ∙ ap (λ (v : ℕ). (bit_at m j + v) % 2) (bit_at-pow_other i j ne)
    ∙ kept (bit_at m j) (bit_at-lt m j))

-- the number stays in range
xor_in : (m i : ℕ) → i < 19 → m < 2 ^ 19 → bit_xor m (2 ^ i) < 2 ^ 19
xor_in m i small lt = xor_lt 19 m (2 ^ i) lt (pow-lt small)

-- ---- a number that tells shows that the question matters, and the other way round

-- nothing is its opposite
differ_from : (x : Bool) → x ≡ not x → ⊥
differ_from true h = false≢true (sym h)
differ_from false h = false≢true h

-- one of two that differ is the opposite of the other
other_way : (x y : Bool) → x ≢ y → y ≡ not x
other_way true true h = absurd (h refl)
other_way true false h = refl
other_way false true h = refl
other_way false false h = absurd (h refl)

-- an action is itself
itself : (a b : Action) → a ≡ b → same_action a b ≡ true
itself a b h = let e : action_number a
    ≡ action_number b = ap action_number h in grind (arith, nat_tests)

-- and no other
no_other : (a b : Action) → a ≢ b → not (same_action a b) ≡ true
no_other a b ne = go (same_action a b) refl
  where
    go : (v : Bool) → same_action a b ≡ v → not v ≡ true
    go false is = refl
    go true is = absurd (apart_places (eqb-true (action_number a) (action_number b) is))
      where
        apart_places : action_number a ≡ action_number b → ⊥
        apart_places e = ne (same_place a b e)

-- a number that tells shows it
tells_matters : (n i m : ℕ) → i < 19 → m < 2 ^ 19 → tells n i m ≡ true → Matters n i
tells_matters n i m small lt h =
    let flip = bit_xor m (2 ^ i) in
    let same : m % 2 ^ i ≡ n % 2 ^ i =
    eqb-true (m % 2 ^ i) (n % 2 ^ i) (first_so _ (not (same_action (table_of m) (table_of flip)))
    h) in
    let unlike : same_action (table_of m) (table_of flip) ≡ false =
    not-true _ (second_so (eqb (m % 2 ^ i) (n % 2 ^ i)) _ h) in
    let before : (j : ℕ) → j < i → is_set m j ≡ is_set n j =
    λ j below. bit_of_rest m i j below ∙ ap (λ (v : ℕ). is_set v j) same
    ∙ sym (bit_of_rest n i j below) in
    record {
      one = m;
      two = flip;
      one_in = lt;
      two_in = xor_in m i small lt;
      one_before = before;
      two_before = λ j below. xor_other m i j (λ e. omega arith) ∙ before j below;
      here = λ e. differ_from (is_set m i) (e ∙ xor_here m i);
      others = λ j ne. sym (xor_other m i j ne);
      apart = λ e. false≢true (sym unlike ∙ itself (table_of m) (table_of flip) e);
    }

-- and what shows it is such a number
matters_tells : (n i : ℕ) → i < 19 → (w : Matters n i) → tells n i w.one ≡ true
matters_tells n i small w =
    let flip = bit_xor w.one (2 ^ i) in
    let two_is : w.two ≡ flip =
    same_from_bits_below 19 w.two flip w.two_in (xor_in w.one i small w.one_in)
    (λ j lt. same_bit_at w.two flip j
    (elim (cases_eq j i) [
      | inl e ↦ subst (λ (k : ℕ). is_set w.two k ≡ is_set flip k) (sym e)
          (other_way (is_set w.one i) (is_set w.two i) w.here ∙ sym (xor_here w.one i))
      | inr ne ↦ sym (w.others j ne) ∙ sym (xor_other w.one i j ne)
    ])) in
    let same : w.one % 2 ^ i ≡ n % 2 ^ i = same_rest w.one n i w.one_before in
    and_from (eqb (w.one % 2 ^ i) (n % 2 ^ i)) _ (grind (arith, nat_tests))
    (no_other (table_of w.one) (table_of flip) (λ e. w.apart (e ∙ ap table_of (sym two_is))))

-- the function gives the asked questions
pub asked_is : (n : ℕ) → IsAsked n (asked_of n)
unfolding asked_of is_asked
asked_is n = record {
  in_range = number-small 19 (is_asked n);
  exact = λ i lt.
      let bit = bit-number 19 (is_asked n) i lt in (
        λ h. let m = any_gives (2 ^ 19) (tells n i) (sym bit ∙ h) in
            tells_matters n i m.0 lt m.1 m.2,
        λ w. bit ∙ below_any (2 ^ 19) (tells n i) w.one w.one_in (matters_tells n i lt w),
      );
}
