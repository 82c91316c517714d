use Rattle.std.proofs.Common.{◌≡◌, ◌++◌, map}
use Rattle.std.specs.Vec.Iter.{into_iter_items}
use Rattle.rx_world.specs.Commit.{out_of}
use Rattle.rx_world.proofs.rows.rows_out.Given as goal

-- the rows so far, and those to come
abbrev pub invariant-loop-document : goal.invariant-loop-document
invariant-loop-document l =
    l.rows.items ++ map (out_of) (into_iter_items l.document-iterator)
    ≡ map (out_of) (into_iter_items l.initial.document-iterator)
