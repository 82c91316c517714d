use Rattle.std.proofs.Common.{◌≡◌, ◌++◌, map}
use Rattle.std.specs.Vec.Iter.{into_iter_items}
use Rattle.rx_world.specs.Step.{stored_of}
use Rattle.rx_world.proofs.rows.stored_rows.Given as goal

-- the rows so far, and those to come
abbrev pub invariant-loop-row : goal.invariant-loop-row
invariant-loop-row l =
    l.stored.items ++ map (stored_of l.name l.lwt) (into_iter_items l.row-iterator)
    ≡ map (stored_of l.name l.lwt) (into_iter_items l.initial.row-iterator)
