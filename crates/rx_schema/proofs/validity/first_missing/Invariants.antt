use Rattle.std.proofs.Common.{◌≡◌, drop}
use Rattle.rx_schema.specs.Validity.{first_missing}
use Rattle.rx_schema.proofs.validity.first_missing.Given as goal

-- the names that are left decide
abbrev pub invariant-loop-name : goal.invariant-loop-name
invariant-loop-name l =
    first_missing (drop l.name-index l.names) l.fields ≡ first_missing l.names l.fields
