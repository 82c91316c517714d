use Rattle.std.proofs.Common.{length, map}
use Rattle.rx_record.specs.Content.{part}
use Rattle.rx_replication.proofs.Pages.{Rise}
use Rattle.rx_compact.specs.Plan.{in_parts, part_records, part_row}
use Rattle.rx_compact.proofs.Ongoing.{HasAdded}
use Rattle.rx_compact.proofs.copying.add_documents_of.Given as goal

-- the parts of the documents that are left are to be added, and these rise by place
abbrev pub invariant-loop-copy : goal.invariant-loop-copy
invariant-loop-copy g l =
    let c = l.collection in
    HasAdded g.D.Disk l.fn.disk l.disk l.fn.copy l.copy
    (map (part c.name) (in_parts (map part_row l.page))) (part_records c)
    × Rise l.page

abbrev pub decreases-loop-copy : goal.decreases-loop-copy
decreases-loop-copy g l = length l.page
