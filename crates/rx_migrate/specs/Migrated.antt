-- What the steps of a migration make of a state.
use Rattle.std.specs.Prelude.{◌≡◌, ℕ, ℤ, pos, ◌*ℤ◌, List, [], ◌∷◌, true, false, Option, Some}
use Rattle.std.specs.Prelude.{None}
use Rattle.std.specs.List.{AllByRecursion}
use Rattle.rx_value.specs.Due.{◌>>=◌, only_if}
use Rattle.rx_value.specs.Fields.{Pairs, AreFields}
use Rattle.rx_value.specs.Named.{named, put_in_order, without}
use Rattle.rx_value.specs.Value.{is_number}
use Rattle.rx_value.specs.declared.state.State.{State}
use Rattle.rx_value.specs.declared.value.Value.{Value}
use Rattle.rx_value.specs.declared.value.Value.TheVariants.{Int}
use Rattle.rx_migrate.specs.Step.{is_named, is_step}
use Rattle.rx_migrate.specs.declared.step.Step.{Step}
use Rattle.rx_migrate.specs.declared.step.Step.TheVariants.{Rename, Set, Unset, Scale}

-- ---- one step

-- the value of one field, where it is there, at another instead, over what that had
abbrev pub renamed : Pairs → List ℕ → List ℕ → Option Value → Pairs
renamed ps field to None = ps
renamed ps field to (Some v) = put_in_order (without ps field) to v

-- a value where a field is missing
abbrev pub filled : Pairs → List ℕ → Value → Option Value → Pairs
filled ps field v None = put_in_order ps field v
filled ps field v (Some held) = ps

-- a product, where a field may hold it
abbrev pub product : ℤ → ℕ → Option ℤ
product n by = only_if (is_number (n *ℤ pos by)) (Some (n *ℤ pos by))

-- a whole number times the factor; nothing where the product is out of range
abbrev pub scaled : Pairs → List ℕ → ℕ → Option Value → Option Pairs
scaled ps field by (Some (Int n)) =
    product n by >>= λ m. Some (put_in_order ps field (Int m))
scaled ps field by _ = Some ps

-- the fields after a step
abbrev pub made : Step → Pairs → Option Pairs
made (Rename field to) ps = Some (renamed ps field to (named ps field))
made (Set field v) ps = Some (filled ps field v (named ps field))
made (Unset field) ps = Some (without ps field)
made (Scale field by) ps = scaled ps field by (named ps field)

-- ---- a migration

-- the fields after the steps, made in turn
abbrev pub all_made : List Step → Pairs → Option Pairs
all_made [] ps = Some ps
all_made (s ∷ ss) ps = made s ps >>= all_made ss

-- the state after the steps: the key and the deletion mark stay
abbrev pub migrated : List Step → State → Option State
migrated ss s = all_made ss s.fields >>= λ ps. Some (record s { fields = ps })

-- ---- what holds of every migration

-- equal states stay equal
abbrev pub EqualStaysEqual : Type 0
EqualStaysEqual = (ss : List Step) (s t : State) → s ≡ t → migrated ss s ≡ migrated ss t

-- the key stays
abbrev pub KeepsTheKey : Type 0
KeepsTheKey = (ss : List Step) (s t : State) → migrated ss s ≡ Some t → t.key ≡ s.key

-- so does the deletion mark
abbrev pub KeepsTheMark : Type 0
KeepsTheMark = (ss : List Step) (s t : State) → migrated ss s ≡ Some t → t.deleted ≡ s.deleted

-- and each field that no step names
abbrev pub KeepsOtherFields : Type 0
KeepsOtherFields = (ss : List Step) (s t : State) (name : List ℕ) → is_named name ss ≡ false
    → migrated ss s ≡ Some t → named t.fields name ≡ named s.fields name

-- fields stay fields
abbrev pub MigratesToFields : Type 0
MigratesToFields = (ss : List Step) (s t : State) → AllByRecursion (λ s. is_step s ≡ true) ss
    → AreFields s.fields → migrated ss s ≡ Some t → AreFields t.fields
