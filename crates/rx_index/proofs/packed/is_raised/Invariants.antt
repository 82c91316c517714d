use Rattle.std.proofs.Common.{◌≡◌, take}
use Rattle.rx_index.specs.Packed.{raised_text}
use Rattle.rx_index.proofs.packed.is_raised.Given as goal

-- the bytes so far are raised ones
abbrev pub invariant-loop-i : goal.invariant-loop-i
invariant-loop-i l = take l.i l.raised ≡ raised_text (take l.i l.text)
