-- A field that no step names stays as it is.
use Rattle.std.proofs.Common.{◌≡◌, ℕ, true, false, cond, List, [], ◌∷◌, Option, Some}
use Rattle.std.proofs.Common.{None, refl, sym, ap, ◌∙◌}
use Rattle.std.proofs.lemmas.Bool.{or_parts}
use Rattle.std.proofs.lemmas.Slice.Eq.{bytes_eq-Decides}
use Rattle.std.specs.Bool.{one_answer}
use Rattle.std.specs.Str.{bytes_eq}
use Rattle.rx_value.specs.Equality.{decides_as}
use Rattle.rx_value.specs.Fields.{Pairs}
use Rattle.rx_value.specs.Named.{named, put_in_order, without}
use Rattle.rx_value.specs.declared.value.Value.{Value}
use Rattle.rx_value.specs.declared.value.Value.TheVariants.{Int}
use Rattle.rx_value.proofs.Named.{named-put_in_order}
use Rattle.rx_value.proofs.Outcomes.{some_then, some_same}
use Rattle.rx_migrate.specs.Migrated.{renamed, filled, product, scaled, made, all_made}
use Rattle.rx_migrate.specs.Migrated.{KeepsOtherFields}
use Rattle.rx_migrate.specs.Step.{is_named, is_named_in}
use Rattle.rx_migrate.specs.declared.step.Step.{Step}
use Rattle.rx_migrate.specs.declared.step.Step.TheVariants.{Rename, Set, Unset, Scale}

-- what isn't equal one way round isn't the other way round
apart : (a b : List ℕ) → bytes_eq a b ≡ false → bytes_eq b a ≡ false
apart a b other =
    one_answer (bytes_eq b a) (bytes_eq a b) (bytes_eq-Decides b a)
    (decides_as (bytes_eq a b) (bytes_eq-Decides a b) sym sym)
    ∙ other

-- ---- one change

without_other : (field name : List ℕ) (ps : Pairs) → bytes_eq field name ≡ false
    → named (without ps field) name ≡ named ps name
without_other field name [] other = refl
without_other field name (p ∷ ps) other =
    elim (bytes_eq field p.0)
    as (λ b. bytes_eq field p.0 ≡ b
    → named (cond b ps (p ∷ without ps field)) name
    ≡ cond (bytes_eq name p.0) (Some p.1) (named ps name)) [
      | true ↦ (λ is.
          let not_here = ap (bytes_eq name) (sym ((bytes_eq-Decides field p.0).0 is))
          ∙ apart field name other in
          sym (ap (λ b. cond b (Some p.1) (named ps name)) not_here))
      | false ↦ (λ is.
          ap (cond (bytes_eq name p.0) (Some p.1)) (without_other field name ps other))
    ] refl

put_other : (field name : List ℕ) (v : Value) (ps : Pairs) → bytes_eq field name ≡ false
    → named (put_in_order ps field v) name ≡ named ps name
put_other field name v ps other =
    named-put_in_order ps field name v
    ∙ ap (λ b. cond b (Some v) (named ps name)) (apart field name other)

-- ---- one step

renamed_other : (ps : Pairs) (field to name : List ℕ) (o : Option Value)
    → bytes_eq field name ≡ false → bytes_eq to name ≡ false
    → named (renamed ps field to o) name ≡ named ps name
renamed_other ps field to name None here there = refl
renamed_other ps field to name (Some v) here there =
    put_other to name v (without ps field) there ∙ without_other field name ps here

filled_other : (ps : Pairs) (field name : List ℕ) (v : Value) (o : Option Value)
    → bytes_eq field name ≡ false → named (filled ps field v o) name ≡ named ps name
filled_other ps field name v None other = put_other field name v ps other
filled_other ps field name v (Some held) other = refl

scaled_other : (ps qs : Pairs) (field name : List ℕ) (by : ℕ) (o : Option Value)
    → bytes_eq field name ≡ false → scaled ps field by o ≡ Some qs → named qs name ≡ named ps name
scaled_other ps qs field name by (Some (Int n)) other is =
    let found = some_then (product n by) (λ m. Some (put_in_order ps field (Int m))) qs is in
    ap (λ rs. named rs name) (sym (some_same found.2)) ∙ put_other field name (Int found.0) ps other
scaled_other ps qs field name by _ other is = ap (λ rs. named rs name) (sym (some_same is))

made_other : (s : Step) (ps qs : Pairs) (name : List ℕ) → is_named_in name s ≡ false
    → made s ps ≡ Some qs → named qs name ≡ named ps name
made_other (Rename field to) ps qs name other is =
    let parts = or_parts (bytes_eq field name) (bytes_eq to name) other in
    ap (λ rs. named rs name) (sym (some_same is))
    ∙ renamed_other ps field to name (named ps field) parts.0 parts.1
made_other (Set field v) ps qs name other is =
    ap (λ rs. named rs name) (sym (some_same is))
    ∙ filled_other ps field name v (named ps field) other
made_other (Unset field) ps qs name other is =
    ap (λ rs. named rs name) (sym (some_same is)) ∙ without_other field name ps other
made_other (Scale field by) ps qs name other is =
    scaled_other ps qs field name by (named ps field) other is

-- ---- all steps

all_made_other : (ss : List Step) (ps qs : Pairs) (name : List ℕ) → is_named name ss ≡ false
    → all_made ss ps ≡ Some qs → named qs name ≡ named ps name
all_made_other [] ps qs name other is = ap (λ rs. named rs name) (sym (some_same is))
all_made_other (s ∷ ss) ps qs name other is =
    let parts = or_parts (is_named_in name s) (is_named name ss) other in
    let found = some_then (made s ps) (all_made ss) qs is in
    all_made_other ss found.0 qs name parts.1 found.2
    ∙ made_other s ps found.0 name parts.0 found.1

pub others : KeepsOtherFields
others ss s t name other is =
    let found = some_then (all_made ss s.fields) _ t is in
    ap (λ u. named u.fields name) (sym (some_same found.2))
    ∙ all_made_other ss s.fields found.0 name other found.1
