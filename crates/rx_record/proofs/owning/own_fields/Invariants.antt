use Rattle.std.proofs.Common.{◌≡◌, ◌++◌, length}
use Rattle.rx_record.specs.Reading.{rest_after}
use Rattle.rx_record.specs.Fields.{fields_of}
use Rattle.rx_record.specs.Views.{end_of, fields_in, pairs_left}
use Rattle.rx_record.proofs.owning.own_fields.Given as goal

-- the pairs so far, and then those that are still to come
abbrev pub invariant-loop-pair : goal.invariant-loop-pair
invariant-loop-pair l =
    (fields_in l.bytes ≡ l.owned.items ++ pairs_left l.pairs)
    × (end_of l.pairs ≡ rest_after (fields_of l.bytes))

abbrev pub decreases-loop-pair : goal.decreases-loop-pair
decreases-loop-pair l = length (pairs_left l.pairs)
