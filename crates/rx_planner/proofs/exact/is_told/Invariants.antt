use Rattle.std.proofs.Common.{◌≡◌, map, drop}
use Rattle.rx_query.specs.QuerySpec.{asked}
use Rattle.rx_planner.specs.Exact.{is_told}
use Rattle.rx_planner.proofs.exact.is_told.Given as goal

-- the fields so far are fixed, and of other names
abbrev pub invariant-loop-field : goal.invariant-loop-field
invariant-loop-field l =
    is_told (asked l.query) (map (λ f. f.now) l.path) l.name l.which l.operand
    ≡ is_told (asked l.query)
    (map (λ f. f.now) (drop l.field-index l.path)) l.name l.which l.operand
