use Rattle.std.proofs.Common.{◌≡◌, ◌↔◌}
use Rattle.std.specs.Map.{values_of}
use Rattle.rx_world.proofs.following.follow_same.Given as goal

-- what is left of both is the same where all is
abbrev pub invariant-loop-this : goal.invariant-loop-this
invariant-loop-this l =
    ((l.this-iterator ≡ l.others) ↔ (values_of l.these.entries ≡ values_of l.those.entries))
    × (goal.iterator-loop-this).can_next l.this-iterator
    × (goal.iterator-loop-this).is_finite l.this-iterator
