-- A hook changes no field but its own, and leaves fields.
use Rattle.std.proofs.Common.{◌≡◌, ◌≢◌, ℕ, ℤ, pos, ◌+ℤ◌, true, false, cond, List, Option, Some, None, if◌then◌else◌, refl, sym, ap, subst, ◌∙◌}
use Rattle.std.proofs.lemmas.Slice.Eq.{bytes_eq-Decides}
use Rattle.std.specs.Str.{bytes_eq}
use Rattle.rx_value.specs.Fields.{Pairs, AreFields}
use Rattle.rx_value.specs.Named.{named, put_in_order}
use Rattle.rx_value.specs.Value.{is_number}
use Rattle.rx_value.specs.declared.state.State.{State}
use Rattle.rx_value.specs.declared.value.Value.{Value}
use Rattle.rx_value.specs.declared.value.Value.TheVariants.{Flag, Int}
use Rattle.rx_value.proofs.Named.{named-put_in_order}
use Rattle.rx_value.proofs.Outcomes.{some_same}
use Rattle.rx_value.proofs.Setting.{put_fields}
use Rattle.rx_update.specs.Hooked.{counted_at, unless_true, zeroed_at, HooksToFields, KeepsTheOthers}
use Rattle.rx_update.specs.Updated.{number_in}
use Rattle.rx_update.specs.declared.kind.HookKind.TheVariants.{Count, Zero, Lock}

differs : (name field : List ℕ) → name ≢ field → bytes_eq name field ≡ false
differs name field apart =
    elim (bytes_eq name field) as (λ b. bytes_eq name field ≡ b → b ≡ false) [
      | true ↦ (λ is. absurd (apart ((bytes_eq-Decides name field).0 is)))
      | false ↦ (λ is. refl)
    ] refl

put_other : (ps : Pairs) (field name : List ℕ) (v : Value) → name ≢ field
    → named (put_in_order ps field v) name ≡ named ps name
put_other ps field name v apart =
    named-put_in_order ps field name v
    ∙ ap (λ b. cond b (Some v) (named ps name)) (differs name field apart)

-- what a hook that vetoes nothing leaves
pub let_through : (o : Option Value) (s t : State) → unless_true o s ≡ Some t → s ≡ t
let_through (Some (Flag true)) s t is = absurd (cc)
let_through (Some (Flag false)) s t is = some_same is
let_through _ s t is = some_same is

-- ---- the others

pub counted_other : (ps : Pairs) (field name : List ℕ) (o : Option ℤ) → name ≢ field
    → named (counted_at field ps o) name ≡ named ps name
counted_other ps field name None apart = refl
counted_other ps field name (Some n) apart =
    elim (is_number (n +ℤ pos 1))
    as (λ b. named (if b then put_in_order ps field (Int (n +ℤ pos 1)) else ps) name
    ≡ named ps name)
    [ true ↦ put_other ps field name (Int (n +ℤ pos 1)) apart | false ↦ refl ]

pub zeroed_other : (ps : Pairs) (field name : List ℕ) (o : Option Value) → name ≢ field
    → named (zeroed_at field ps o) name ≡ named ps name
zeroed_other ps field name None apart = put_other ps field name (Int (pos 0)) apart
zeroed_other ps field name (Some v) apart = refl

pub others : KeepsTheOthers
others Count field name s t apart is =
    ap (λ (u : State). named u.fields name) (sym (some_same is))
    ∙ counted_other s.fields field name (number_in (named s.fields field)) apart
others Zero field name s t apart is =
    ap (λ (u : State). named u.fields name) (sym (some_same is))
    ∙ zeroed_other s.fields field name (named s.fields field) apart
others Lock field name s t apart is =
    ap (λ (u : State). named u.fields name)
    (sym (let_through (named s.fields field) s t is))

-- ---- fields

counted_fields : (ps : Pairs) (field : List ℕ) (o : Option ℤ) → AreFields ps
    → AreFields (counted_at field ps o)
counted_fields ps field None are = are
counted_fields ps field (Some n) are =
    elim (is_number (n +ℤ pos 1))
    as (λ b. is_number (n +ℤ pos 1) ≡ b
    → AreFields (if b then put_in_order ps field (Int (n +ℤ pos 1)) else ps)) [
      | true ↦ (λ is. put_fields ps field (Int (n +ℤ pos 1)) are is)
      | false ↦ (λ is. are)
    ] refl

zeroed_fields : (ps : Pairs) (field : List ℕ) (o : Option Value) → AreFields ps
    → AreFields (zeroed_at field ps o)
zeroed_fields ps field None are = put_fields ps field (Int (pos 0)) are refl
zeroed_fields ps field (Some v) are = are

pub to_fields : HooksToFields
to_fields Count field s t are is =
    subst (λ (u : State). AreFields u.fields) (some_same is)
    (counted_fields s.fields field (number_in (named s.fields field)) are)
to_fields Zero field s t are is =
    subst (λ (u : State). AreFields u.fields) (some_same is)
    (zeroed_fields s.fields field (named s.fields field) are)
to_fields Lock field s t are is =
    subst (λ (u : State). AreFields u.fields) (let_through (named s.fields field) s t is) are
