use Rattle.std.proofs.Common.{◌≡◌, drop}
use Rattle.rx_writes.specs.Documents.{with_fields}
use Rattle.rx_writes.proofs.documents.set_fields.Given as goal

-- the fields that are left are still to be set
abbrev pub invariant-loop-i : goal.invariant-loop-i
invariant-loop-i l =
    with_fields l.initial.fields l.more ≡ with_fields l.fields (drop l.i l.more)
