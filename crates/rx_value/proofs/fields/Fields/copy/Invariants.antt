use Rattle.std.proofs.Common.{◌≡◌, take}
use Rattle.rx_value.proofs.fields.Fields.copy.Given as goal

-- the pairs so far
abbrev pub invariant-loop-name : goal.invariant-loop-name
invariant-loop-name l = l.pairs.items ≡ take l.name-index l.self
