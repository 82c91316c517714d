-- Handlers by name.
use Rattle.std.specs.Prelude.{⊤, ℕ, List, Bool, String, string_bytes, is_none, Result}
use Rattle.std.specs.List.{list_all}
use Rattle.std.specs.Str.{bytes_eq}
use Rattle.std.specs.declared.alloc.Global.{Global}
use Rattle.rx_value.specs.Due.{demand}
use Rattle.rx_value.specs.Named.{named}
use Rattle.rx_handler.specs.declared.fault.HandlerFault.{HandlerFault}
use Rattle.rx_handler.specs.declared.fault.HandlerFault.TheVariants.{Twice}
use Rattle.rx_handler.specs.declared.kind.HandlerKind.{HandlerKind}

-- what each gives, in the order of adding
abbrev pub Kinds : Type 0
Kinds = List (List ℕ × HandlerKind)

-- there is none of that name yet
abbrev pub room_for : List ℕ → Kinds → Result ⊤ HandlerFault
room_for name kinds = demand (is_none (named kinds name)) (Twice name)

-- each stands under the name that it has
abbrev pub are_called : {H : Type 0} → (H → List ℕ) → List (String Global × H) → Bool
are_called name es = list_all (λ e. bytes_eq (string_bytes e.0) (name e.1)) es
