use Rattle.std.proofs.Common.{◌≡◌, drop}
use Rattle.rx_update.specs.Attached.{hooked_all}
use Rattle.rx_update.proofs.attached.run_hooks.Given as goal

-- the hooks that are left run on the state so far
abbrev pub invariant-loop-one : goal.invariant-loop-one
invariant-loop-one g l =
    hooked_all l.coll l.when (drop l.one-index l.attached) l.state
    ≡ hooked_all l.coll l.when l.attached l.initial.state
