use Rattle.std.proofs.Common.{◌≡◌}
use Rattle.rx_observe.specs.Observing.{cooled}
use Rattle.rx_observe.proofs.Done.{done}
use Rattle.rx_observe.proofs.live.cool_all.Given as goal

-- the first i queries are cold
abbrev pub invariant-loop-i : goal.invariant-loop-i
invariant-loop-i l = l.queries.items ≡ done (λ q. (q.0, cooled q.1)) l.i l.fn.queries.items
