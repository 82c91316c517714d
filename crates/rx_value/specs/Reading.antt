-- Reading the fields of a JSON object.
use Rattle.std.specs.Prelude.{ℕ, ℤ, List, [], ◌∷◌, Option, Result, Ok, Err, if◌then◌else◌}
use Rattle.std.specs.Str.{bytes_eq}
use Rattle.serde_json.specs.Data.{Data, boolean, number, string, Members, no_members, member}
use Rattle.serde_json.specs.Find.{as_integer, as_object}
use Rattle.rx_value.specs.Due.{◌>>◌, or_fault}
use Rattle.rx_value.specs.Fields.{Pairs}
use Rattle.rx_value.specs.Value.{is_number}
use Rattle.rx_value.specs.declared.fault.ValueFault.{ValueFault}
use Rattle.rx_value.specs.declared.fault.ValueFault.TheVariants.{NotObject, Kind, Range}
use Rattle.rx_value.specs.declared.value.Value.{Value}
use Rattle.rx_value.specs.declared.value.Value.TheVariants.{Flag, Int, Text}

-- the number of that name, which is to be in range
abbrev pub in_range : List ℕ → ℤ → Result Value ValueFault
in_range name z = if is_number z then Ok (Int z) else Err (Range name)

-- and to be whole
abbrev pub integer_of : List ℕ → Option ℤ → Result Value ValueFault
integer_of name n = or_fault (Kind name) n >> in_range name

-- the value of the member of that name, or its fault
abbrev pub value_of : List ℕ → Data → Result Value ValueFault
value_of name (boolean b) = Ok (Flag b)
value_of name (number n) = integer_of name (as_integer n)
value_of name (string s) = Ok (Text s)
value_of name d = Err (Kind name)

-- the members in the order of their names: the first at fault decides
abbrev pub members_fields : Members → Result Pairs ValueFault
members_fields no_members = Ok []
members_fields (member name d ms) =
    value_of name d >> λ v. members_fields ms >> λ ps. Ok ((name, v) ∷ ps)

-- the fields of a JSON object
abbrev pub fields_of : Data → Result Pairs ValueFault
fields_of d = or_fault NotObject (as_object d) >> members_fields

-- the members but the one of that name
abbrev pub without : List ℕ → Members → Members
without name no_members = no_members
without name (member k d ms) =
    if bytes_eq k name then without name ms else member k d (without name ms)

-- the fields of a JSON object but for the member of that name
abbrev pub fields_beside : List ℕ → Data → Result Pairs ValueFault
fields_beside name d = or_fault NotObject (as_object d) >> λ ms. members_fields (without name ms)
