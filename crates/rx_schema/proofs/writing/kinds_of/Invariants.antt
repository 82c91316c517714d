use Rattle.std.proofs.Common.{◌≡◌, take}
use Rattle.rx_schema.specs.Writing.{kinds_of}
use Rattle.rx_schema.proofs.writing.kinds_of.Given as goal

-- the kinds so far
abbrev pub invariant-loop-name : goal.invariant-loop-name
invariant-loop-name l = l.pairs.items ≡ kinds_of (take l.name-index l.properties)
