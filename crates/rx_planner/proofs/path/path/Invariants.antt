use Rattle.std.proofs.Common.{◌≡◌, map, take}
use Rattle.rx_planner.proofs.path.path.Given as goal

-- the fields so far
abbrev pub invariant-loop-field : goal.invariant-loop-field
invariant-loop-field l = map (λ f. f.now) l.path.items ≡ take l.field-index l.fields
