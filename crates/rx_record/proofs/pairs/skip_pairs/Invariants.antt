use Rattle.std.proofs.Common.{◌≡◌, None, option_map}
use Rattle.rx_record.specs.Reading.{rest_after}
use Rattle.rx_record.specs.Fields.{pairs_of}
use Rattle.rx_record.proofs.pairs.skip_pairs.Given as goal

-- what is read from here on ends where all ends
abbrev pub invariant-loop-left : goal.invariant-loop-left
invariant-loop-left l =
    rest_after (pairs_of l.count None l.bytes)
    ≡ rest_after (pairs_of l.left (option_map (λ t. t.now) l.last) l.rest)

abbrev pub decreases-loop-left : goal.decreases-loop-left
decreases-loop-left l = l.left
