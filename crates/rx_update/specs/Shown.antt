-- Hooks as their callers see them.
use Rattle.std.specs.Prelude.{map}
use Rattle.rx_update.specs.Attached.{Hooking}
use Rattle.rx_update.specs.Hooks.{HookKinds}
use Rattle.rx_update.specs.declared.attached.Attachments.{Attachments}
use Rattle.rx_update.specs.declared.hooks.Hooks.{Hooks}

-- what each does, by its name
abbrev pub hook_kinds : {x : _} {f : _} {g : _} → Hooks x f g → HookKinds
hook_kinds hooks = map (λ h. (h.name, h.kind)) hooks.held.items

-- the hooks that a run knows, and those that stand before its writes
abbrev pub hooking_of : Attachments → Hooking
hooking_of a = record { known = a.known.items; attached = a.attached.items }
