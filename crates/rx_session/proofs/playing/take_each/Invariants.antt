use Rattle.std.proofs.Common.{◌≡◌, ◌++◌, drop}
use Rattle.rx_world.specs.Holders.{holders_in}
use Rattle.rx_session.specs.Playing.{due_each, settled_each}
use Rattle.rx_session.proofs.playing.take_each.Given as goal

-- what was taken, and what the others are to give
abbrev pub invariant-loop-coll : goal.invariant-loop-coll
invariant-loop-coll l = record {
  lives : settled_each (drop l.coll-index l.written) (holders_in l.world)
      ≡ settled_each l.written (holders_in l.initial.world);
  due : l.all.items ++ due_each (drop l.coll-index l.written) (holders_in l.world)
      ≡ due_each l.written (holders_in l.initial.world);
  replications : l.world.replications ≡ l.initial.world.replications;
  epoch : l.world.epoch ≡ l.initial.world.epoch;
}
