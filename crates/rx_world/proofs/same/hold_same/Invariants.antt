use Rattle.std.proofs.Common.{◌≡◌, ◌↔◌, map}
use Rattle.rx_value.specs.Named.{by_name}
use Rattle.rx_world.proofs.Alike.{AreUnbroken}
use Rattle.rx_world.proofs.same.hold_same.Given as goal

-- what is left of both is the same where all is, and none of it is broken
abbrev pub invariant-loop-this : goal.invariant-loop-this
invariant-loop-this g l =
    let held = g.H.Holder.held in
    ((map held l.this-iterator ≡ map held l.others)
    ↔ (by_name held l.these.entries ≡ by_name held l.those.entries))
    × AreUnbroken held g.H.Holder.is_broken l.this-iterator
    × AreUnbroken held g.H.Holder.is_broken l.others
    × (goal.iterator-loop-this g).can_next l.this-iterator
    × (goal.iterator-loop-this g).is_finite l.this-iterator
