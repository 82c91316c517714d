use Rattle.std.proofs.Common.{◌≡◌, drop}
use Rattle.rx_value.specs.Form.{is_among}
use Rattle.rx_schema.proofs.names.is_listed.Given as goal

-- the names that are left decide
abbrev pub invariant-loop-known : goal.invariant-loop-known
invariant-loop-known l =
    is_among l.names l.name ≡ is_among (drop l.known-index l.names) l.name
