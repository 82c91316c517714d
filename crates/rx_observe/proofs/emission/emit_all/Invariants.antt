use Rattle.std.specs.Vec.Iter.{into_iter_items}
use Rattle.rx_observe.proofs.Places.{AreEmitted}
use Rattle.rx_observe.proofs.emission.emit_all.Given as goal

-- the queries of the places that are left are still to be emitted
abbrev pub invariant-loop-place : goal.invariant-loop-place
invariant-loop-place l =
    AreEmitted l.fn.queries.items l.queries.items (into_iter_items l.place-iterator)
