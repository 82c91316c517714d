use Rattle.std.proofs.Common.{◌≡◌, take}
use Rattle.rx_index.proofs.index.Index.new.Given as goal

-- the fields so far
abbrev pub invariant-loop-field : goal.invariant-loop-field
invariant-loop-field l = l.names.items ≡ take l.field-index l.fields
