-- Equality of values, of fields and of states.
use Rattle.std.specs.Prelude.{Bool, false, ◌&&◌}
use Rattle.std.specs.Cmp.Lexicographic.{pointwise}
use Rattle.std.specs.Ordering.{int_eq}
use Rattle.std.specs.Str.{bytes_eq}
use Rattle.std.specs.Bool.{beq}
use Rattle.rx_value.specs.Fields.{Pair, Pairs}
use Rattle.rx_value.specs.declared.state.State.{State}
use Rattle.rx_value.specs.declared.value.Value.{Value}
use Rattle.rx_value.specs.declared.value.Value.TheVariants.{Flag, Int, Text}

-- values are equal where they are of one kind and hold the same
abbrev pub value_eq : Value → Value → Bool
value_eq (Flag a) (Flag b) = beq a b
value_eq (Int a) (Int b) = int_eq a b
value_eq (Text a) (Text b) = bytes_eq a b
value_eq a b = false

-- pairs are equal where name and value are
abbrev pub pair_eq : Pair → Pair → Bool
pair_eq p q = bytes_eq p.0 q.0 && value_eq p.1 q.1

-- fields are equal pair by pair
abbrev pub fields_eq : Pairs → Pairs → Bool
fields_eq = pointwise pair_eq

-- states are equal where key, fields and mark are
abbrev pub state_eq : State → State → Bool
state_eq s t = bytes_eq s.key t.key && fields_eq s.fields t.fields && beq s.deleted t.deleted
