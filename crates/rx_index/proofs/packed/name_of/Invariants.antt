use Rattle.std.proofs.Common.{◌≡◌, false, take}
use Rattle.rx_index.specs.Packed.{values_bytes, AreLawful}
use Rattle.rx_index.proofs.packed.name_of.Given as goal

-- the values so far
abbrev pub invariant-loop-value : goal.invariant-loop-value
invariant-loop-value l = record {
  bytes : l.bytes.items ≡ values_bytes (take l.value-index l.values) false;
  lawful : AreLawful (take l.value-index l.values);
}
