-- Fields, with their value of the field that a sort begins with.
use Rattle.std.specs.Prelude.{◌≡◌, ℕ, Bool, List, Option, Some, None, option_map, slice_get}
use Rattle.std.specs.Option.{ForSome}
use Rattle.rx_value.specs.Fields.{Pairs}
use Rattle.rx_value.specs.Named.{named}
use Rattle.rx_value.specs.declared.value.Value.{Value}
use Rattle.rx_query.specs.QuerySpec.{Sorts}
use Rattle.rx_states.specs.declared.forms.Form.{Form}

-- the value of such a field
abbrev pub value_at : Option (List ℕ × Bool) → Pairs → Option Value
value_at None x = None
value_at (Some s) x = named x s.0

-- the value of the field that a sort begins with
abbrev pub leading : Sorts → Pairs → Option Value
leading sorts x = value_at (slice_get sorts 0) x

-- where there are fields
abbrev pub leading_in : Sorts → Option Pairs → Option Value
leading_in sorts None = None
leading_in sorts (Some x) = leading sorts x

-- the value that goes with the fields is that one
abbrev pub IsForm : Sorts → Form → Type 0
IsForm sorts form = option_map (λ v. v.now) form.leading ≡ leading sorts form.fields.now

-- the fields of a form
abbrev pub fields_in : Option Form → Option Pairs
fields_in = option_map (λ form. form.fields.now)

-- it is the form of such fields, where there are any
pub record IsFormOf (sorts : Sorts) (x : Option Pairs) (form : Option Form) : Type 0 where
  pub fields : fields_in form ≡ x
  pub leading : ForSome form (IsForm sorts)
