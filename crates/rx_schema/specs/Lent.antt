-- Values whose texts are lent.
use Rattle.std.specs.Prelude.{ℕ, Bool, List, is_none}
use Rattle.std.specs.Str.{bytes_eq}
use Rattle.rx_value.specs.Named.{named}
use Rattle.rx_value.specs.declared.value.Value.{Value}
use Rattle.rx_value.specs.declared.value.Value.TheVariants as value
use Rattle.rx_schema.specs.Validity.{fault_of}
use Rattle.rx_schema.specs.declared.lent_value.LentValue.{LentValue}
use Rattle.rx_schema.specs.declared.lent_value.LentValue.TheVariants.{Flag, Int, Text}
use Rattle.rx_schema.specs.declared.shape.Shape.{Shape}

-- the value
abbrev pub value_lent : LentValue → Value
value_lent (Flag b) = value.Flag b
value_lent (Int n) = value.Int n
value_lent (Text t) = value.Text t.now

-- a field of that name and value has no fault
abbrev pub takes : Shape → List ℕ → Value → Bool
takes s name v = is_none (fault_of (named s.properties name) (bytes_eq name s.primary) name v)
