use Rattle.std.proofs.Common.{length, map}
use Rattle.rx_record.specs.Writable.{StatesRise}
use Rattle.rx_compact.specs.Plan.{in_parts, known_record}
use Rattle.rx_compact.proofs.Ongoing.{HasAdded}
use Rattle.rx_compact.proofs.copying.add_known_left.Given as goal

-- the parts of the states that are left are to be added, and these rise by key
abbrev pub invariant-loop-copy : goal.invariant-loop-copy
invariant-loop-copy g l =
    let r = l.replication in
    HasAdded g.D.Disk l.fn.disk l.disk l.fn.copy l.copy
    (map (known_record r) (in_parts l.known)) (map (known_record r) (in_parts l.fn.known))
    × StatesRise l.known

abbrev pub decreases-loop-copy : goal.decreases-loop-copy
decreases-loop-copy g l = length l.known
