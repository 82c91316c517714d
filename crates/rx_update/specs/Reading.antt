-- Reading an update: an object of operators, each with an object of fields.
use Rattle.std.specs.Prelude.{ℕ, ℤ, ◌+◌, nat_lt, List, [], ◌∷◌, ◌++◌, codes, Bool, not, is_none}
use Rattle.std.specs.Prelude.{is_some, if◌then◌else◌, Option, Some, None, Result, Ok}
use Rattle.std.specs.Ordering.{is_le}
use Rattle.serde_json.specs.Data.{Data, boolean, string, Members, no_members, member}
use Rattle.serde_json.specs.Find.{get, as_integer, as_number, as_object}
use Rattle.rx_value.specs.Due.{◌>>◌, ◌>>=◌, demand, only_if, unless}
use Rattle.rx_value.specs.Form.{unexpected}
use Rattle.rx_value.specs.Order.{text_cmp}
use Rattle.rx_value.specs.Value.{is_number}
use Rattle.rx_value.specs.declared.value.Value.{Value}
use Rattle.rx_value.specs.declared.value.Value.TheVariants.{Flag, Int, Text}
use Rattle.rx_update.specs.declared.fault.UpdateFault.{UpdateFault}
use Rattle.rx_update.specs.declared.fault.UpdateFault.TheVariants.{Operator, Operand, Twice, Key}
use Rattle.rx_update.specs.declared.operation.Operation.{Operation}
use Rattle.rx_update.specs.declared.operation.Operation.TheVariants.{Add, Raise, Lower, Set, Unset}
use Rattle.rx_update.specs.declared.operands.Operator.{Operator as Word}
use Rattle.rx_update.specs.declared.operands.Operator.TheVariants as word

-- what an update does, field by field: first what is added, then what is raised, lowered, set and
-- taken away, each by rising name
abbrev pub Operations : Type 0
Operations = List (List ℕ × Operation)

abbrev pub name_of : Word → List ℕ
name_of word.Inc = codes "$inc"
name_of word.Max = codes "$max"
name_of word.Min = codes "$min"
name_of word.Set = codes "$set"
name_of word.Unset = codes "$unset"

abbrev pub operator_names : List (List ℕ)
operator_names =
    codes "$inc" ∷ codes "$max" ∷ codes "$min" ∷ codes "$set" ∷ codes "$unset" ∷ []

-- what stands under each operator
pub record Under : Type 0 where
  pub inc : Option Data
  pub max : Option Data
  pub min : Option Data
  pub set : Option Data
  pub unset : Option Data

abbrev pub under_each : Option Data → Option Data → Option Data → Option Data → Option Data → Under
under_each i a m s u = record { inc = i; max = a; min = m; set = s; unset = u }

abbrev pub operands_of : Data → Under
operands_of d =
    under_each (get (name_of word.Inc) d) (get (name_of word.Max) d) (get (name_of word.Min) d)
    (get (name_of word.Set) d) (get (name_of word.Unset) d)

abbrev pub under : Under → Word → Option Data
under u word.Inc = u.inc
under u word.Max = u.max
under u word.Min = u.min
under u word.Set = u.set
under u word.Unset = u.unset

-- ---- one field

-- the whole number that stands there, where a field may hold it
abbrev pub number_at : Data → Option ℤ
number_at d = as_number d >>= as_integer >>= λ z. only_if (is_number z) (Some z)

-- the value
abbrev pub value_at : Data → Option Value
value_at (boolean b) = Some (Flag b)
value_at (string s) = Some (Text s)
value_at d = number_at d >>= λ z. Some (Int z)

-- what an operator does with an operand that it takes
abbrev pub operation_of : Word → Data → Option Operation
operation_of word.Inc d = number_at d >>= λ z. Some (Add z)
operation_of word.Max d = value_at d >>= λ v. Some (Raise v)
operation_of word.Min d = value_at d >>= λ v. Some (Lower v)
operation_of word.Set d = value_at d >>= λ v. Some (Set v)
operation_of word.Unset d = Some Unset

-- ---- the fields under an operator

-- the first whose operand it doesn't take
abbrev pub misfit_among : Word → Members → Option (List ℕ)
misfit_among op no_members = None
misfit_among op (member name d ms) =
    if is_none (operation_of op d) then Some name else misfit_among op ms

-- the operator itself, where it has no object of fields
abbrev pub misfit_of : Word → Option Members → Option (List ℕ)
misfit_of op None = Some (name_of op)
misfit_of op (Some ms) = misfit_among op ms

abbrev pub misfit_under : Under → Word → Option (List ℕ)
misfit_under u op = under u op >>= λ fields. misfit_of op (as_object fields)

-- a field stands under an operator
abbrev pub is_under : Under → List ℕ → Word → Bool
is_under u name op = is_some (under u op >>= get name)

abbrev pub one_if : Bool → ℕ
one_if b = if b then 1 else 0

-- under how many it stands
abbrev pub times_named : Under → List ℕ → ℕ
times_named u name =
    one_if (is_under u name word.Inc) + one_if (is_under u name word.Max)
    + one_if (is_under u name word.Min) + one_if (is_under u name word.Set)
    + one_if (is_under u name word.Unset)

-- the first that stands under another operator too
abbrev pub repeated_among : Under → Members → Option (List ℕ)
repeated_among u no_members = None
repeated_among u (member name field ms) =
    if nat_lt 1 (times_named u name) then Some name else repeated_among u ms

abbrev pub repeated_under : Under → Word → Option (List ℕ)
repeated_under u op = under u op >>= as_object >>= repeated_among u

-- what is done to each
abbrev pub with_operation : List ℕ → Option Operation → Operations → Operations
with_operation name None os = os
with_operation name (Some o) os = (name, o) ∷ os

abbrev pub operations_among : Word → Members → Operations
operations_among op no_members = []
operations_among op (member name d ms) =
    with_operation name (operation_of op d) (operations_among op ms)

abbrev pub operations_of : Word → Option Members → Operations
operations_of op None = []
operations_of op (Some ms) = operations_among op ms

abbrev pub operations_under : Under → Word → Operations
operations_under u op = operations_of op (under u op >>= as_object)

-- ---- the whole

-- the first by bytes of those that there are
abbrev pub first_of : Option (List ℕ) → Option (List ℕ) → Option (List ℕ)
first_of None b = b
first_of (Some a) None = Some a
first_of (Some a) (Some b) = if is_le (text_cmp a b) then Some a else Some b

-- the first by bytes under all operators
abbrev pub first_under : (Word → Option (List ℕ)) → Option (List ℕ)
first_under f =
    first_of (f word.Inc)
    (first_of (f word.Max) (first_of (f word.Min) (first_of (f word.Set) (f word.Unset))))

-- a field stands under an operator at all
abbrev pub is_named : Under → List ℕ → Bool
is_named u name = nat_lt 0 (times_named u name)

abbrev pub all_operations : Under → Operations
all_operations u =
    operations_under u word.Inc ++ operations_under u word.Max ++ operations_under u word.Min
    ++ operations_under u word.Set ++ operations_under u word.Unset

abbrev pub operations_in : List ℕ → Under → Result Operations UpdateFault
operations_in primary u =
    unless Operand (first_under (misfit_under u))
    (unless Twice (first_under (repeated_under u))
    (demand (not (is_named u primary)) (Key primary) >> λ _. Ok (all_operations u)))

-- what an update does, or the first of its faults; what is no object has no members
abbrev pub update_of : List ℕ → Data → Result Operations UpdateFault
update_of primary d =
    unless Operator (unexpected operator_names [] d) (operations_in primary (operands_of d))
