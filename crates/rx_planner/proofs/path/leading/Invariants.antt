use Rattle.std.proofs.Common.{◌≡◌, ◌+◌, map, drop}
use Rattle.rx_query.specs.QuerySpec.{asked}
use Rattle.rx_planner.specs.Plan.{leading}
use Rattle.rx_planner.proofs.path.leading.Given as goal

-- the fields so far are fixed
abbrev pub invariant-loop-i : goal.invariant-loop-i
invariant-loop-i l =
    leading (asked l.query) (map (λ f. f.now) l.path)
    ≡ l.i + leading (asked l.query) (map (λ f. f.now) (drop l.i l.path))
