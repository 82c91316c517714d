use Rattle.std.proofs.Common.{◌≡◌, map, drop}
use Rattle.rx_query.specs.QuerySpec.{asked}
use Rattle.rx_planner.specs.Closed.{closed_at, closed_of}
use Rattle.rx_planner.specs.Onto.{onto}
use Rattle.rx_planner.proofs.closed.closed.Given as goal

-- the values so far, and the bound of what is left
abbrev pub invariant-loop-field : goal.invariant-loop-field
invariant-loop-field l =
    onto l.values.items
    (closed_at (asked l.query) l.up (map (λ f. f.now) (drop l.field-index l.path)))
    ≡ closed_of (asked l.query) l.up (map (λ f. f.now) l.path)
