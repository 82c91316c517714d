use Rattle.std.proofs.Common.{◌≡◌, ◌++◌, map, Some}
use Rattle.std.specs.Vec.Iter.{into_iter_items}
use Rattle.rx_session.specs.Doing.{stream_after}
use Rattle.rx_session.specs.Placed.{world_of}
use Rattle.rx_session.proofs.streaming.follow_all.Given as goal

-- the streams so far, and those to come
abbrev pub invariant-loop-stream : goal.invariant-loop-stream
invariant-loop-stream l =
    l.all.items
    ++ map (stream_after (world_of l.world) (Some l.coll)) (into_iter_items l.stream-iterator)
    ≡ map (stream_after (world_of l.world) (Some l.coll))
    (into_iter_items l.initial.stream-iterator)
