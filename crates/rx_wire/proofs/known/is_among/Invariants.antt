use Rattle.std.proofs.Common.{◌≡◌, drop}
use Rattle.rx_value.specs.Form.{texts, is_among}
use Rattle.rx_wire.proofs.known.is_among.Given as goal

-- the names that are left decide
abbrev pub invariant-loop-known : goal.invariant-loop-known
invariant-loop-known l =
    is_among (texts l.names) l.name ≡ is_among (texts (drop l.known-index l.names)) l.name
