use Rattle.std.proofs.Common.{◌≡◌, ◌++◌, drop}
use Rattle.rx_replication.specs.Master.{conflicts, writes}
use Rattle.rx_master.proofs.plan.take.Given as goal

abbrev pub invariant-loop-row : goal.invariant-loop-row
invariant-loop-row l = record {
  writes : l.plan.writes ++ writes l.collection.documents (drop l.row-index l.rows)
      ≡ writes l.collection.documents l.rows;
  conflicts : l.plan.conflicts ++ conflicts l.collection.documents (drop l.row-index l.rows)
      ≡ conflicts l.collection.documents l.rows;
}
