use Rattle.std.proofs.Common.{◌≡◌, drop}
use Rattle.rx_update.specs.Updated.{first_where, is_misadded}
use Rattle.rx_update.proofs.update.first_misadded.Given as goal

-- the operations that are left decide
abbrev pub invariant-loop-name : goal.invariant-loop-name
invariant-loop-name l =
    first_where is_misadded l.fields (drop l.name-index l.operations)
    ≡ first_where is_misadded l.fields l.operations
