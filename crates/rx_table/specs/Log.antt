-- What whoever answers tells of the questions that it was asked.
use Rattle.std.specs.Prelude.{◌≡◌, List, ◌++◌, Option, Some, None}
use Rattle.rx_table.specs.declared.states.StateName.{StateName}

-- The list now has these questions more, at its end. Whoever stops to keep a list tells nothing,
-- and doesn't begin again.
abbrev pub Adds : Option (List StateName) → List StateName → Option (List StateName) → Type 0
Adds old more None = Unit {0}
Adds None more (Some new) = ⊥
Adds (Some old) more (Some new) = new ≡ old ++ more
