-- The tests of equality hold exactly where there is equality.
use Rattle.std.proofs.Common.{◌≡◌, Bool, false, true≢false, refl, sym, ap}
use Rattle.std.proofs.lemmas.Bool.Decides.{Decides-and, Decides-int_eq}
use Rattle.std.proofs.lemmas.Slice.Eq.{bytes_eq-Decides, slice_eq-Decides}
use Rattle.std.specs.Bool.{Decides, beq, one_answer}
use Rattle.std.specs.Cmp.{IsEquivalence, booleans_Decides}
use Rattle.std.specs.Str.{bytes_eq}
use Rattle.rx_value.specs.Equal.{value_eq, pair_eq, fields_eq, state_eq}
use Rattle.rx_value.specs.Fields.{Pair, Pairs}
use Rattle.rx_value.specs.declared.state.State.{State}
use Rattle.rx_value.specs.declared.value.Value.{Value}
use Rattle.rx_value.specs.declared.value.Value.TheVariants.{Flag, Int, Text}

-- what holds both ways holds of a test of other values
pub decides_as : {P Q : Type 0} (r : Bool) → Decides r P → (P → Q) → (Q → P) → Decides r Q
decides_as r d f g = (λ h. f (d.0 h), λ q. d.1 (g q))

-- values of two kinds
apart : {P : Type 0} → (P → ⊥) → Decides false P
apart never = (λ h. absurd (true≢false (sym h)), λ p. absurd (never p))

-- values
pub value_eq-Decides : (a b : Value) → Decides (value_eq a b) (a ≡ b)
value_eq-Decides (Flag a) (Flag b) =
    decides_as (beq a b) (booleans_Decides a b) (λ (h : a ≡ b). ap Flag h) (λ h. cc)
value_eq-Decides (Int a) (Int b) =
    decides_as _ (Decides-int_eq a b) (λ (h : a ≡ b). ap Int h) (λ h. cc)
value_eq-Decides (Text a) (Text b) =
    decides_as (bytes_eq a b) (bytes_eq-Decides a b) (λ (h : a ≡ b). ap Text h) (λ h. cc)
value_eq-Decides _ _ = apart (λ h. cc)

-- pairs of name and value
pub pair_eq-Decides : (p q : Pair) → Decides (pair_eq p q) (p ≡ q)
pair_eq-Decides p q =
    decides_as _
    (Decides-and (bytes_eq p.0 q.0) (value_eq p.1 q.1)
    (bytes_eq-Decides p.0 q.0) (value_eq-Decides p.1 q.1))
    (λ h i. (h.0 i, h.1 i)) (λ h. (ap (λ x. x.0) h, ap (λ x. x.1) h))

-- fields
pub fields_eq-Decides : (f g : Pairs) → Decides (fields_eq f g) (f ≡ g)
fields_eq-Decides f g = slice_eq-Decides pair_eq-Decides f g (fields_eq f g) refl

-- states
pub state_eq-Decides : (s t : State) → Decides (state_eq s t) (s ≡ t)
state_eq-Decides s t =
    decides_as _
    (Decides-and _ (beq s.deleted t.deleted)
    (Decides-and (bytes_eq s.key t.key) (fields_eq s.fields t.fields)
    (bytes_eq-Decides s.key t.key) (fields_eq-Decides s.fields t.fields))
    (booleans_Decides s.deleted t.deleted))
    (λ h i. record { key = h.0.0 i; fields = h.0.1 i; deleted = h.1 i })
    (λ h. ((ap (λ x. x.key) h, ap (λ x. x.fields) h), ap (λ x. x.deleted) h))

-- a test that decides equality is an equivalence
pub equivalence : {K : Type 0} (E : K → K → Bool) → ((a b : K) → Decides (E a b) (a ≡ b))
    → IsEquivalence E
equivalence E same = record {
  refl = λ x. (same x x).1 refl;
  symm = λ x y. one_answer (E x y) (E y x) (same x y) (decides_as (E y x) (same y x) sym sym);
  congr = λ x y z h. ap (λ w. E w z) ((same x y).0 h);
}
