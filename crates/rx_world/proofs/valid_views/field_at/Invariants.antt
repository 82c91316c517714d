use Rattle.std.proofs.Common.{◌≡◌, length}
use Rattle.rx_record.specs.Views.{pairs_left, state_in}
use Rattle.rx_value.specs.Named.{named}
use Rattle.rx_world.proofs.valid_views.field_at.Given as goal

-- the fields that are left decide
abbrev pub invariant-loop-pair : goal.invariant-loop-pair
invariant-loop-pair l =
    named (pairs_left l.pairs) l.name ≡ named (state_in l.state).fields l.name

abbrev pub decreases-loop-pair : goal.decreases-loop-pair
decreases-loop-pair l = length (pairs_left l.pairs)
