use Rattle.std.proofs.Common.{◌≡◌, drop}
use Rattle.rx_update.specs.Updated.{first_where, sums_past}
use Rattle.rx_update.proofs.update.first_past.Given as goal

-- the operations that are left decide
abbrev pub invariant-loop-name : goal.invariant-loop-name
invariant-loop-name l =
    first_where sums_past l.fields (drop l.name-index l.operations)
    ≡ first_where sums_past l.fields l.operations
