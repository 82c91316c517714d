use Rattle.std.specs.Prelude.{◌≡◌, take, map}
use Rattle.rx_update.specs.Shown.{hook_kinds}
use Rattle.rx_top.proofs.known.with_hooks.Given as goal

abbrev pub invariant-loop-name : goal.invariant-loop-name
invariant-loop-name g l =
    hook_kinds l.hooks ≡ map (λ e. (e.0.now, e.1)) (take l.name-index l.name-items)
