use Rattle.std.proofs.Common.{◌≡◌, map, take}
use Rattle.rx_query.specs.QuerySpec.{asked}
use Rattle.rx_planner.proofs.order.sort_path.Given as goal

-- the fields so far
abbrev pub invariant-loop-i : goal.invariant-loop-i
invariant-loop-i l =
    map (λ f. f.now) l.path.items ≡ map (λ s. s.0) (take l.i (asked l.query).sorts)
