use Rattle.std.proofs.Common.{◌≡◌, ◌-◌}
use Rattle.rx_stream.specs.Events.{followed}
use Rattle.rx_stream.proofs.queue.Queue.follow.Given as goal

-- what is still to come makes of the queue what all makes of it
abbrev pub invariant-loop : goal.invariant-loop
invariant-loop l =
    followed (l.end - l.counter) l.collection.documents l.self
    ≡ followed l.end l.collection.documents l.fn.self
