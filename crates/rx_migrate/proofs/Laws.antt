-- What holds of every migration.
use Rattle.std.proofs.Common.{◌≡◌, ℕ, ℤ, true, false, cond, List, [], ◌∷◌, Option, Some, None, refl}
use Rattle.std.proofs.Common.{sym, ap, subst}
use Rattle.std.proofs.lemmas.Bool.{and_parts}
use Rattle.std.specs.List.{AllByRecursion}
use Rattle.std.specs.Prelude.{pos, ◌*ℤ◌}
use Rattle.std.specs.Str.{bytes_eq}
use Rattle.rx_value.specs.Fields.{Pairs, AreFields}
use Rattle.rx_value.specs.Named.{named, put_in_order, without}
use Rattle.rx_value.specs.Name.{is_field_name}
use Rattle.rx_value.specs.Value.{is_number, is_value}
use Rattle.rx_value.specs.declared.value.Value.{Value}
use Rattle.rx_value.specs.declared.value.Value.TheVariants.{Int}
use Rattle.rx_value.proofs.Outcomes.{some_then, some_same}
use Rattle.rx_value.proofs.Removed.{without_fields}
use Rattle.rx_value.proofs.Setting.{put_fields, value_in}
use Rattle.rx_migrate.specs.Migrated.{renamed, filled, product, scaled, made, all_made}
use Rattle.rx_migrate.specs.Migrated.{migrated, EqualStaysEqual, KeepsTheKey, KeepsTheMark}
use Rattle.rx_migrate.specs.Migrated.{MigratesToFields}
use Rattle.rx_migrate.specs.Step.{is_step}
use Rattle.rx_migrate.specs.declared.step.Step.{Step}
use Rattle.rx_migrate.specs.declared.step.Step.TheVariants.{Rename, Set, Unset, Scale}

-- ---- a state

pub equal : EqualStaysEqual
equal ss s t same = ap (migrated ss) same

pub key : KeepsTheKey
key ss s t is = sym (ap (λ u. u.key) (some_same (some_then (all_made ss s.fields) _ t is).2))

pub mark : KeepsTheMark
mark ss s t is = sym (ap (λ u. u.deleted) (some_same (some_then (all_made ss s.fields) _ t is).2))

-- ---- fields stay fields

-- a product is in range
in_range : (z m : ℤ) → cond (is_number z) (Some z) None ≡ Some m → is_number m ≡ true
in_range z m is =
    elim (is_number z)
    as (λ b. is_number z ≡ b → cond b (Some z) None ≡ Some m → is_number m ≡ true) [
      | true ↦ (λ so found. subst (λ (u : ℤ). is_number u ≡ true) (some_same found) so)
      | false ↦ (λ so found. cc)
    ] refl is

renamed-fields : (ps : Pairs) (field to : List ℕ) (o : Option Value) → AreFields ps
    → named ps field ≡ o → AreFields (renamed ps field to o)
renamed-fields ps field to None fields at = fields
renamed-fields ps field to (Some v) fields at =
    put_fields (without ps field) to v (without_fields ps field fields)
    (value_in ps field fields.in_range v at)

filled-fields : (ps : Pairs) (field : List ℕ) (v : Value) (o : Option Value) → AreFields ps
    → is_value v ≡ true → AreFields (filled ps field v o)
filled-fields ps field v None fields is = put_fields ps field v fields is
filled-fields ps field v (Some held) fields is = fields

scaled-fields : (ps : Pairs) (field : List ℕ) (by : ℕ) (o : Option Value) (qs : Pairs)
    → AreFields ps → scaled ps field by o ≡ Some qs → AreFields qs
scaled-fields ps field by (Some (Int n)) qs fields is =
    let found = some_then (product n by) (λ m. Some (put_in_order ps field (Int m))) qs is in
    subst AreFields (some_same found.2)
    (put_fields ps field (Int found.0) fields (in_range (n *ℤ pos by) found.0 found.1))
scaled-fields ps field by _ qs fields is = subst AreFields (some_same is) fields

made-fields : (s : Step) (ps qs : Pairs) → is_step s ≡ true → AreFields ps
    → made s ps ≡ Some qs → AreFields qs
made-fields (Rename field to) ps qs step fields is =
    subst AreFields (some_same is) (renamed-fields ps field to (named ps field) fields refl)
made-fields (Set field v) ps qs step fields is =
    subst AreFields (some_same is)
    (filled-fields ps field v (named ps field) fields
    (and_parts (is_field_name field) (is_value v) step).1)
made-fields (Unset field) ps qs step fields is =
    subst AreFields (some_same is) (without_fields ps field fields)
made-fields (Scale field by) ps qs step fields is =
    scaled-fields ps field by (named ps field) qs fields is

all_made-fields : (ss : List Step) (ps qs : Pairs) → AllByRecursion (λ s. is_step s ≡ true) ss
    → AreFields ps → all_made ss ps ≡ Some qs → AreFields qs
all_made-fields [] ps qs steps fields is = subst AreFields (some_same is) fields
all_made-fields (s ∷ ss) ps qs steps fields is =
    let found = some_then (made s ps) (all_made ss) qs is in
    all_made-fields ss found.0 qs steps.1 (made-fields s ps found.0 steps.0 fields found.1) found.2

pub to_fields : MigratesToFields
to_fields ss s t steps fields is =
    let found = some_then (all_made ss s.fields) _ t is in
    subst AreFields (ap (λ u. u.fields) (some_same found.2))
    (all_made-fields ss s.fields found.0 steps fields found.1)
