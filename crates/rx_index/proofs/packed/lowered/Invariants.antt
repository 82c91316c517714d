use Rattle.std.proofs.Common.{◌≡◌, ◌-◌, map, take}
use Rattle.rx_index.proofs.packed.lowered.Given as goal

-- the bytes so far
abbrev pub invariant-loop-byte : goal.invariant-loop-byte
invariant-loop-byte l = l.bytes.items ≡ map (λ b. b - 11) (take l.byte-index l.raised)
