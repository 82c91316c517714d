-- Hooks by name.
use Rattle.std.specs.Prelude.{⊤, ℕ, List, is_none, Result}
use Rattle.rx_value.specs.Due.{demand}
use Rattle.rx_value.specs.Named.{named}
use Rattle.rx_update.specs.declared.fault.HookFault.{HookFault}
use Rattle.rx_update.specs.declared.fault.HookFault.TheVariants.{Twice}
use Rattle.rx_update.specs.declared.kind.HookKind.{HookKind}

-- what each does, in the order of adding
abbrev pub HookKinds : Type 0
HookKinds = List (List ℕ × HookKind)

-- there is none of that name yet
abbrev pub room_for : List ℕ → HookKinds → Result ⊤ HookFault
room_for name kinds = demand (is_none (named kinds name)) (Twice name)
