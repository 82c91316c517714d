-- Where all numbers are near enough to 0, steps make something of fields.
use Rattle.std.proofs.Common.{◌≡◌, ◌<◌, ◌≤◌, ◌*◌, ◌-◌, ℕ, ℤ, suc, pos, negsuc, Bool, true, false, ◌&&◌, cond, List, [], ◌∷◌, Option, Some, None, is_some, refl, sym, ap, subst, ◌∙◌, le_trans, arith}
use Rattle.std.proofs.Math.Nat.{le-mul_of_pos_right}
use Rattle.std.proofs.lemmas.Bool.{and_parts, leb-true, le-leb}
use Rattle.std.proofs.lemmas.Int.{unsigned_abs-mul}
use Rattle.std.proofs.lemmas.Nat.{mul-le}
use Rattle.std.specs.List.{AllByRecursion, list_all}
use Rattle.std.specs.Ordering.{match_ordering}
use Rattle.std.specs.Prelude.{◌*ℤ◌, int_le, nat_le, unsigned_abs}
use Rattle.std.specs.Str.{bytes_eq}
use Rattle.std.specs.declared.cmp.Ordering.TheVariants.{Less, Equal, Greater}
use Rattle.rx_value.specs.Due.{◌>>=◌, only_if}
use Rattle.rx_value.specs.Fields.{Pairs}
use Rattle.rx_value.specs.Name.{is_field_name}
use Rattle.rx_value.specs.Named.{named, put_in_order, without}
use Rattle.rx_value.specs.Order.{text_cmp}
use Rattle.rx_value.specs.Value.{is_number, largest}
use Rattle.rx_value.specs.declared.value.Value.{Value}
use Rattle.rx_value.specs.declared.value.Value.TheVariants.{Flag, Int, Text}
use Rattle.rx_value.proofs.Outcomes.{some_is, some_then, some_same}
use Rattle.rx_migrate.specs.Migrated.{renamed, filled, scaled, made, all_made}
use Rattle.rx_migrate.specs.Step.{is_step, most_by}
use Rattle.rx_migrate.specs.Sure.{is_within, most_after, most_after_all}
use Rattle.rx_migrate.specs.declared.step.Step.{Step}
use Rattle.rx_migrate.specs.declared.step.Step.TheVariants.{Rename, Set, Unset, Scale}

-- no number is farther from 0
abbrev AreWithin : ℕ → Pairs → Type 0
AreWithin most ps = AllByRecursion (λ p. is_within most p.1 ≡ true) ps

each : (most : ℕ) (ps : Pairs) → list_all (λ p. is_within most p.1) ps ≡ true → AreWithin most ps
each most [] all = tt
each most (p ∷ ps) all =
    let parts = and_parts (is_within most p.1) (list_all (λ q. is_within most q.1) ps) all in
    (parts.0, each most ps parts.1)

-- ---- one change

put_within : (most : ℕ) (ps : Pairs) (name : List ℕ) (v : Value) → is_within most v ≡ true
    → AreWithin most ps → AreWithin most (put_in_order ps name v)
put_within most [] name v is all = (is, tt)
put_within most (p ∷ ps) name v is all =
    elim (text_cmp name p.0)
    as (λ o. AllByRecursion (λ q. is_within most q.1 ≡ true)
    (match_ordering o ((name, v) ∷ p ∷ ps) ((p.0, v) ∷ ps) (p ∷ put_in_order ps name v))) [
      | Less ↦ (is, all)
      | Equal ↦ (is, all.1)
      | Greater ↦ (all.0, put_within most ps name v is all.1)
    ]

left_within : (most : ℕ) (ps : Pairs) (name : List ℕ) → AreWithin most ps
    → AreWithin most (without ps name)
left_within most [] name all = tt
left_within most (p ∷ ps) name all =
    elim (bytes_eq name p.0)
    as (λ b. AllByRecursion (λ q. is_within most q.1 ≡ true) (cond b ps (p ∷ without ps name)))
    [ true ↦ all.1 | false ↦ (all.0, left_within most ps name all.1) ]

value_within : (most : ℕ) (ps : Pairs) (name : List ℕ) → AreWithin most ps → (v : Value)
    → named ps name ≡ Some v → is_within most v ≡ true
value_within most [] name all v at = absurd (cc)
value_within most (p ∷ ps) name all v at =
    elim (bytes_eq name p.0)
    as (λ b. cond b (Some p.1) (named ps name) ≡ Some v → is_within most v ≡ true) [
      | true ↦ (λ is. subst (λ (u : Value). is_within most u ≡ true) (some_same is) all.0)
      | false ↦ (λ is. value_within most ps name all.1 v is)
    ] at

-- ---- products

farther : (v : Value) (most more : ℕ) → most ≤ more → is_within most v ≡ true
    → is_within more v ≡ true
farther (Int n) most more le is =
    let near : unsigned_abs n ≤ most = leb-true (unsigned_abs n) most is in
    le-leb (unsigned_abs n) more (omega (arith, near, le))
farther (Flag b) most more le is = refl
farther (Text s) most more le is = refl

all_farther : (ps : Pairs) (most more : ℕ) → most ≤ more → AreWithin most ps → AreWithin more ps
all_farther [] most more le all = tt
all_farther (p ∷ ps) most more le all =
    (farther p.1 most more le all.0, all_farther ps most more le all.1)

both : (a b : Bool) → a ≡ true → b ≡ true → (a && b) ≡ true
both true b one other = other
both false b one other = one

number : (z : ℤ) → unsigned_abs z ≤ largest → is_number z ≡ true
number (pos n) near =
    both (int_le (negsuc (largest - 1)) (pos n)) (int_le (pos n) (pos largest)) refl
    (le-leb n largest near)
number (negsuc n) near =
    let below : suc n ≤ largest = near in
    let low : n ≤ largest - 1 = omega (arith, below) in
    both (int_le (negsuc (largest - 1)) (negsuc n)) (int_le (negsuc n) (pos largest))
    (le-leb n (largest - 1) low) refl

product_within : (n : ℤ) (most by : ℕ) → is_within most (Int n) ≡ true
    → unsigned_abs (n *ℤ pos by) ≤ most * by
product_within n most by is =
    let near : unsigned_abs n ≤ most = leb-true (unsigned_abs n) most is in
    subst (λ (m : ℕ). m ≤ most * by) (sym (unsigned_abs-mul n (pos by)))
    (mul-le (unsigned_abs n) by most by near (omega arith))

-- ---- one step

-- it makes such fields
abbrev IsMade : Option Pairs → ℕ → Type 0
IsMade o most = (ps : Pairs) × (o ≡ Some ps) × AreWithin most ps

renamed_within : (ps : Pairs) (field to : List ℕ) (most : ℕ) (o : Option Value)
    → named ps field ≡ o → AreWithin most ps → AreWithin most (renamed ps field to o)
renamed_within ps field to most None at all = all
renamed_within ps field to most (Some v) at all =
    put_within most (without ps field) to v (value_within most ps field all v at)
    (left_within most ps field all)

filled_within : (ps : Pairs) (field : List ℕ) (v : Value) (most : ℕ) (o : Option Value)
    → is_within most v ≡ true → AreWithin most ps → AreWithin most (filled ps field v o)
filled_within ps field v most None is all = put_within most ps field v is all
filled_within ps field v most (Some held) is all = all

scaled_within : (ps : Pairs) (field : List ℕ) (most by : ℕ) (o : Option Value)
    → named ps field ≡ o → most ≤ most * by → most * by ≤ largest → AreWithin most ps
    → IsMade (scaled ps field by o) (most * by)
scaled_within ps field most by None at le in_range all =
    (ps, refl, all_farther ps most (most * by) le all)
scaled_within ps field most by (Some (Flag b)) at le in_range all =
    (ps, refl, all_farther ps most (most * by) le all)
scaled_within ps field most by (Some (Text s)) at le in_range all =
    (ps, refl, all_farther ps most (most * by) le all)
scaled_within ps field most by (Some (Int n)) at le in_range all =
    let near : unsigned_abs (n *ℤ pos by) ≤ most * by =
    product_within n most by (value_within most ps field all (Int n) at) in (
      put_in_order ps field (Int (n *ℤ pos by)),
      ap (λ b. only_if b (Some (n *ℤ pos by)) >>= λ m. Some (put_in_order ps field (Int m)))
          (number (n *ℤ pos by) (le_trans near in_range)),
      put_within (most * by) ps field (Int (n *ℤ pos by))
          (le-leb (unsigned_abs (n *ℤ pos by)) (most * by) near)
          (all_farther ps most (most * by) le all),
    )

-- a test was passed
passed : {A : Type 0} (b : Bool) (x y : A) → only_if b (Some x) ≡ Some y → (b ≡ true) × (x ≡ y)
passed true x y is = (refl, some_same is)
passed false x y is = cc

made_within : (s : Step) (ps : Pairs) (most next : ℕ) → is_step s ≡ true
    → most_after s most ≡ Some next → AreWithin most ps → IsMade (made s ps) next
made_within (Rename field to) ps most next step is all = (
  renamed ps field to (named ps field),
  refl,
  subst (λ (m : ℕ). AreWithin m (renamed ps field to (named ps field))) (some_same is)
      (renamed_within ps field to most (named ps field) refl all),
)
made_within (Set field v) ps most next step is all =
    let near = passed (is_within most v) most next is in (
      filled ps field v (named ps field),
      refl,
      subst (λ (m : ℕ). AreWithin m (filled ps field v (named ps field))) near.1
          (filled_within ps field v most (named ps field) near.0 all),
    )
made_within (Unset field) ps most next step is all = (
  without ps field,
  refl,
  subst (λ (m : ℕ). AreWithin m (without ps field)) (some_same is)
      (left_within most ps field all),
)
made_within (Scale field by) ps most next step is all =
    let near = passed (nat_le (most * by) largest) (most * by) next is in
    let first = and_parts (is_field_name field && nat_le 1 by) (nat_le by most_by) step in
    let some : 1 ≤ by =
    leb-true 1 by (and_parts (is_field_name field) (nat_le 1 by) first.0).1 in
    let positive : 0 < by = omega (arith, some) in
    subst (λ (m : ℕ). IsMade (scaled ps field by (named ps field)) m) near.1
    (scaled_within ps field most by (named ps field) refl
    (le-mul_of_pos_right most positive)
    (leb-true (most * by) largest near.0) all)

-- ---- all steps

all_within : (ss : List Step) (ps : Pairs) (most : ℕ) → AllByRecursion (λ s. is_step s ≡ true) ss
    → is_some (most_after_all ss most) ≡ true → AreWithin most ps
    → is_some (all_made ss ps) ≡ true
all_within [] ps most steps some all = refl
all_within (s ∷ ss) ps most steps some all =
    let last = some_is (most_after s most >>= most_after_all ss) some in
    let next = some_then (most_after s most) (most_after_all ss) last.0 last.1 in
    let one = made_within s ps most next.0 steps.0 next.1 all in
    ap (λ o. is_some (o >>= all_made ss)) one.1
    ∙ all_within ss one.0 next.0 steps.1 (ap is_some next.2) one.2

-- such steps make something of such fields
pub sure : (ss : List Step) (ps : Pairs) (most : ℕ) → AllByRecursion (λ s. is_step s ≡ true) ss
    → is_some (most_after_all ss most) ≡ true → list_all (λ p. is_within most p.1) ps ≡ true
    → is_some (all_made ss ps) ≡ true
sure ss ps most steps some all = all_within ss ps most steps some (each most ps all)
