use Rattle.std.proofs.Common.{◌≡◌, drop}
use Rattle.rx_writes.specs.Documents.{keeps_key}
use Rattle.rx_writes.proofs.documents.keeps_key.Given as goal

-- the fields that are left decide
abbrev pub invariant-loop-i : goal.invariant-loop-i
invariant-loop-i l =
    keeps_key l.primary l.key l.fields ≡ keeps_key l.primary l.key (drop l.i l.fields)
