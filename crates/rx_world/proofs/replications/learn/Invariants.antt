use Rattle.std.proofs.Common.{◌≡◌}
use Rattle.std.specs.Vec.Iter.{into_iter_items}
use Rattle.rx_replication.specs.Known.{with_learnt}
use Rattle.rx_world.proofs.replications.learn.Given as goal

-- with the states to come as much is known as at the end, and the checkpoints stay
abbrev pub invariant-loop-state : goal.invariant-loop-state
invariant-loop-state l = record {
  known :
      with_learnt l.side.known (into_iter_items l.state-iterator)
      ≡ with_learnt l.initial.side.known (into_iter_items l.initial.state-iterator);
  up : l.side.up ≡ l.initial.side.up;
  down : l.side.down ≡ l.initial.side.down;
}
