use Rattle.std.proofs.Common.{◌≡◌}
use Rattle.std.specs.Vec.Iter.{into_iter_items}
use Rattle.rx_replication.specs.Known.{with_learnt}
use Rattle.rx_world.specs.Copy.{are_copied_states}
use Rattle.rx_world.proofs.copying.learn_copied.Given as goal

-- with the states to come as much is known as with all, which are taken where those are; and the
-- checkpoints stay
abbrev pub invariant-loop-state : goal.invariant-loop-state
invariant-loop-state l = record {
  known :
      with_learnt l.side.known (into_iter_items l.state-iterator)
      ≡ with_learnt l.initial.side.known (into_iter_items l.initial.state-iterator);
  may :
      are_copied_states (into_iter_items l.state-iterator) l.side.known l.fork
      ≡ are_copied_states (into_iter_items l.initial.state-iterator) l.initial.side.known l.fork;
  up : l.side.up ≡ l.initial.side.up;
  down : l.side.down ≡ l.initial.side.down;
}
