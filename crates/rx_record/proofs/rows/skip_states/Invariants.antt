use Rattle.std.proofs.Common.{◌≡◌, None, option_map}
use Rattle.rx_record.specs.Reading.{rest_after}
use Rattle.rx_record.specs.Rows.{states_from}
use Rattle.rx_record.proofs.rows.skip_states.Given as goal

-- what is read from here on ends where all ends
abbrev pub invariant-loop-left : goal.invariant-loop-left
invariant-loop-left l =
    rest_after (states_from l.count None l.bytes)
    ≡ rest_after (states_from l.left (option_map (λ t. t.now) l.last) l.rest)

abbrev pub decreases-loop-left : goal.decreases-loop-left
decreases-loop-left l = l.left
