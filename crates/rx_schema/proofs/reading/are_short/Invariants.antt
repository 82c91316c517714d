use Rattle.std.proofs.Common.{◌≡◌, ◌+◌, take, sum_by}
use Rattle.rx_schema.specs.Property.{most_code_points}
use Rattle.rx_schema.specs.Reading.{code_points_of}
use Rattle.rx_schema.proofs.reading.are_short.Given as goal

-- what is left and what was taken are all
abbrev pub invariant-loop-property : goal.invariant-loop-property
invariant-loop-property l =
    l.left + sum_by (λ p. code_points_of p.1) (take l.property-index l.properties)
    ≡ most_code_points
