use Rattle.std.proofs.Common.{◌≡◌, drop}
use Rattle.rx_value.specs.Named.{named}
use Rattle.rx_value.proofs.place.named_among.Given as goal

-- the thing is among those of the pairs that are left, if at all
abbrev pub invariant-loop-pair : goal.invariant-loop-pair
invariant-loop-pair g l =
    named (drop l.pair-index l.pairs) l.name ≡ named l.pairs l.name
