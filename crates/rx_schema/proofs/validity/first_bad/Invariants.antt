use Rattle.std.proofs.Common.{◌≡◌, drop}
use Rattle.rx_schema.specs.Validity.{first_bad}
use Rattle.rx_schema.proofs.validity.first_bad.Given as goal

-- the fields that are left decide
abbrev pub invariant-loop-i : goal.invariant-loop-i
invariant-loop-i l = first_bad l.shape (drop l.i l.fields) ≡ first_bad l.shape l.fields
