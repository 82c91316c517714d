use Rattle.std.proofs.Common.{◌≡◌, ◌++◌, drop, map}
use Rattle.rx_update.proofs.hooks.Hooks.known.Given as goal

-- those so far, and then those of the hooks that are left
abbrev pub invariant-loop-hook : goal.invariant-loop-hook
invariant-loop-hook g l =
    l.known.items ++ map (λ h. (h.name, h.kind)) (drop l.hook-index l.hook-items)
    ≡ map (λ h. (h.name, h.kind)) l.self.held.items
