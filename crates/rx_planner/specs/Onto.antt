-- A position with values in front.
use Rattle.std.specs.Prelude.{List, ◌++◌, Option}
use Rattle.rx_value.specs.declared.value.Value.{Value}
use Rattle.rx_index.specs.Position.{Position, position_with}

abbrev pub onto : List (Option Value) → Position → Position
onto values p = position_with (values ++ p.values) p.after
