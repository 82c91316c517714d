use Rattle.std.proofs.Common.{◌↔◌}
use Rattle.std.specs.List.{AllByRecursion}
use Rattle.std.specs.Map.{values_of}
use Rattle.rx_value.specs.Named.{by_name}
use Rattle.rx_world.specs.Sound.{IsSoundIn}
use Rattle.rx_world.proofs.soundness.is_sound.Given as goal

-- what is left is sound where all is
abbrev pub invariant-loop-replication : goal.invariant-loop-replication
invariant-loop-replication g l =
    let cs = by_name g.H.Holder.held l.parts.holders.entries in
    (AllByRecursion (IsSoundIn cs) l.replication-iterator
    ↔ AllByRecursion (IsSoundIn cs) (values_of l.parts.replications.entries))
    × (goal.iterator-loop-replication g).can_next l.replication-iterator
    × (goal.iterator-loop-replication g).is_finite l.replication-iterator
