use Rattle.std.proofs.Common.{◌≡◌, ◌+◌, map, drop}
use Rattle.rx_query.specs.QuerySpec.{asked}
use Rattle.rx_planner.specs.Way.{falls, matched}
use Rattle.rx_planner.proofs.way.matched.Given as goal

-- the fields so far, and those that are left
abbrev pub invariant-loop-i : goal.invariant-loop-i
invariant-loop-i l =
    matched (falls (asked l.query)) (asked l.query).sorts (map (λ f. f.now) l.fields)
    ≡ l.i + matched (falls (asked l.query)) (drop l.i (asked l.query).sorts)
    (map (λ f. f.now) (drop l.i l.fields))
