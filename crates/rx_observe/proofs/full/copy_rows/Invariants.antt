use Rattle.std.proofs.Common.{◌≡◌, map, take}
use Rattle.rx_query.specs.Result.{row_of}
use Rattle.rx_observe.proofs.full.copy_rows.Given as goal

-- the rows of the documents so far
abbrev pub invariant-loop-document : goal.invariant-loop-document
invariant-loop-document l = l.rows ≡ map (λ d. row_of d.now) (take l.document-index l.documents)
