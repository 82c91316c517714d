use Rattle.std.proofs.Common.{rules}
use Rattle.rx_update.proofs.Finding.{found, passed}
use Rattle.rx_update.proofs.hooks.Hooks.find.Goals as goal

pub returns-then-eq : goal.returns-then-eq
returns-then-eq g c =
    found (λ h. (h.name, h.kind)) c.deref-hook-items.result.now c.loop-hook.hook-index
    c.hook-item.result c.args.name.now _ c.loop-hook-test.true c.hook-item.is
    c.loop-hook.invariant (search rules)

pub loop-hook-preserved : goal.loop-hook-preserved
loop-hook-preserved g c =
    passed (λ h. (h.name, h.kind)) c.deref-hook-items.result.now c.loop-hook.hook-index
    c.hook-item.result c.args.name.now _ c.loop-hook-test.true c.hook-item.is
    c.loop-hook.invariant (search rules)
