use Rattle.std.proofs.Common.{◌≡◌}
use Rattle.std.specs.Vec.Iter.{into_iter_items}
use Rattle.rx_world.specs.Holders.{holders_in}
use Rattle.rx_session.proofs.Carrying.{IsCarrying}
use Rattle.rx_session.proofs.reopening.carry_all.Given as goal

-- the first collections have their queries, and those of the others are to come
abbrev pub invariant-loop-live : goal.invariant-loop-live
invariant-loop-live l =
    IsCarrying (holders_in l.fn.old) (holders_in l.world) (into_iter_items l.live-iterator)
    × (l.world.replications ≡ l.fn.world.replications)
    × (l.world.epoch ≡ l.fn.world.epoch)
