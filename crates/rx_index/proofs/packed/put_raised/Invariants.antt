use Rattle.std.proofs.Common.{◌≡◌, ◌++◌, take}
use Rattle.rx_index.specs.Packed.{raised_text}
use Rattle.rx_index.proofs.packed.put_raised.Given as goal

-- the bytes so far
abbrev pub invariant-loop-byte : goal.invariant-loop-byte
invariant-loop-byte l =
    l.bytes.items ≡ l.initial.bytes.items ++ raised_text (take l.byte-index l.byte-items)
