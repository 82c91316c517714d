use Rattle.std.proofs.Common.{◌≡◌, drop}
use Rattle.rx_schema.specs.Validity.{first_unknown}
use Rattle.rx_schema.proofs.validity.first_unknown.Given as goal

-- the fields that are left decide
abbrev pub invariant-loop-i : goal.invariant-loop-i
invariant-loop-i l = first_unknown l.rules (drop l.i l.fields) ≡ first_unknown l.rules l.fields
