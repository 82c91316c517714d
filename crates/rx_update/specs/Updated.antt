-- What an update makes of a document's fields.
use Rattle.std.specs.Prelude.{◌≡◌, ℕ, ℤ, pos, ◌+ℤ◌, List, [], ◌∷◌, ◌++◌, map, Bool, true, false, not}
use Rattle.std.specs.Prelude.{is_none, if◌then◌else◌, Option, Some, None, Result, Ok}
use Rattle.std.specs.List.{AllByRecursion}
use Rattle.std.specs.Ordering.{is_lt}
use Rattle.serde_json.specs.Data.{Data}
use Rattle.rx_value.specs.Due.{◌>>=◌, only_if, unless}
use Rattle.rx_value.specs.Fields.{Pairs, AreFields}
use Rattle.rx_value.specs.Form.{is_among}
use Rattle.rx_value.specs.Named.{named, put_in_order, without}
use Rattle.rx_value.specs.Order.{order_of}
use Rattle.rx_value.specs.Value.{is_number, is_value}
use Rattle.rx_value.specs.declared.value.Value.{Value}
use Rattle.rx_value.specs.declared.value.Value.TheVariants.{Int}
use Rattle.rx_update.specs.Reading.{Operations, update_of}
use Rattle.rx_update.specs.declared.fault.UpdateFault.{UpdateFault}
use Rattle.rx_update.specs.declared.fault.UpdateFault.TheVariants.{Kind, Range}
use Rattle.rx_update.specs.declared.operation.Operation.{Operation}
use Rattle.rx_update.specs.declared.operation.Operation.TheVariants.{Add, Raise, Lower, Set, Unset}

-- ---- one field

-- the number that a field counts as, a missing one as 0
abbrev pub number_in : Option Value → Option ℤ
number_in None = Some (pos 0)
number_in (Some (Int n)) = Some n
number_in _ = None

-- a sum, where a field holds it
abbrev pub sum_of : ℤ → ℤ → Option Value
sum_of m n = only_if (is_number (m +ℤ n)) (Some (Int (m +ℤ n)))

-- the value that an operation makes of the one that is there
abbrev pub made : Operation → Option Value → Option Value
made (Add n) held = number_in held >>= λ m. sum_of m n
made (Raise v) held = if is_lt (order_of held (Some v)) then Some v else held
made (Lower v) None = Some v
made (Lower v) (Some h) = if is_lt (order_of (Some v) (Some h)) then Some v else Some h
made (Set v) held = Some v
made Unset held = None

-- it is added to what is no number
abbrev pub is_misadded : Operation → Option Value → Bool
is_misadded (Add n) held = is_none (number_in held)
is_misadded _ held = false

-- a sum that no field holds
abbrev pub is_past : ℤ → Option ℤ → Bool
is_past n None = false
is_past n (Some m) = not (is_number (m +ℤ n))

abbrev pub sums_past : Operation → Option Value → Bool
sums_past (Add n) held = is_past n (number_in held)
sums_past _ held = false

-- ---- all fields

-- fields with a value at a name, or with none there
abbrev pub with_value : Pairs → List ℕ → Option Value → Pairs
with_value ps name (Some v) = put_in_order ps name v
with_value ps name None = without ps name

-- each named field has what its operation makes of its old value
abbrev pub made_of : Pairs → Operations → Pairs → Pairs
made_of old [] ps = ps
made_of old (o ∷ os) ps = made_of old os (with_value ps o.0 (made o.1 (named old o.0)))

-- the first field for which a test holds of its operation and its old value
abbrev pub first_where : (Operation → Option Value → Bool) → Pairs → Operations → Option (List ℕ)
first_where p old [] = None
first_where p old (o ∷ os) = if p o.1 (named old o.0) then Some o.0 else first_where p old os

-- the fields after an update, or the first of its faults
abbrev pub updated : Operations → Pairs → Result Pairs UpdateFault
updated os ps =
    unless Kind (first_where is_misadded ps os)
    (unless Range (first_where sums_past ps os) (Ok (made_of ps os ps)))

-- ---- which updates there are

-- the value is one that a field holds
abbrev pub has_value : Operation → Bool
has_value (Add n) = is_number n
has_value (Raise v) = is_value v
has_value (Lower v) = is_value v
has_value (Set v) = is_value v
has_value Unset = true

abbrev pub AreOperations : Operations → Type 0
AreOperations os = AllByRecursion (λ o. has_value o.1 ≡ true) os

-- ---- what holds of every update

-- the names of the fields that it changes
abbrev pub names_of : Operations → List (List ℕ)
names_of os = map (λ o. o.0) os

-- each other field stays
abbrev pub KeepsOtherFields : Type 0
KeepsOtherFields = (os : Operations) (ps qs : Pairs) (name : List ℕ)
    → is_among (names_of os) name ≡ false → updated os ps ≡ Ok qs → named qs name ≡ named ps name

-- each that it names has what the operation makes of it, the last one where there are several
abbrev pub MakesEachField : Type 0
MakesEachField = (before : Operations) (name : List ℕ) (o : Operation) (after : Operations)
    (ps qs : Pairs) → is_among (names_of after) name ≡ false → AreFields ps
    → updated (before ++ (name, o) ∷ after) ps ≡ Ok qs → named qs name ≡ made o (named ps name)

-- an update that was read beside a primary key leaves the document its key
abbrev pub LeavesThePrimaryKey : Type 0
LeavesThePrimaryKey = (primary : List ℕ) (d : Data) (os : Operations) (ps qs : Pairs)
    → update_of primary d ≡ Ok os → updated os ps ≡ Ok qs → named qs primary ≡ named ps primary

-- and fields stay fields
abbrev pub UpdatesToFields : Type 0
UpdatesToFields = (os : Operations) (ps qs : Pairs) → AreOperations os → AreFields ps
    → updated os ps ≡ Ok qs → AreFields qs
