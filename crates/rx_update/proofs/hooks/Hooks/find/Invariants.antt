use Rattle.std.proofs.Common.{◌≡◌, drop, map}
use Rattle.rx_value.specs.Named.{named}
use Rattle.rx_update.proofs.hooks.Hooks.find.Given as goal

-- the hooks that are left decide
abbrev pub invariant-loop-hook : goal.invariant-loop-hook
invariant-loop-hook g l =
    named (map (λ h. (h.name, h.kind)) (drop l.hook-index l.hook-items)) l.name
    ≡ named (map (λ h. (h.name, h.kind)) l.self.held.items) l.name
