use Rattle.std.proofs.Common.{◌≡◌, ◌↔◌}
use Rattle.rx_world.proofs.following.are_same_states.Given as goal

-- what is left of both is the same where all is
abbrev pub invariant-loop-this : goal.invariant-loop-this
invariant-loop-this l =
    ((l.this-iterator ≡ l.those) ↔ (l.fn.these ≡ l.fn.those))
    × (goal.iterator-loop-this).can_next l.this-iterator
    × (goal.iterator-loop-this).is_finite l.this-iterator
