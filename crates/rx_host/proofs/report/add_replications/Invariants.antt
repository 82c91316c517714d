use Rattle.std.proofs.Common.{◌≡◌, ◌++◌, drop, string_bytes}
use Rattle.rx_host.specs.Report.{replication_lines}
use Rattle.rx_host.specs.Worlds.{world_of}
use Rattle.rx_host.proofs.report.add_replications.Given as goal

-- the lines so far, before those of the replications that are left, are those that are due
abbrev pub invariant-loop-i : goal.invariant-loop-i
invariant-loop-i l =
    let w = world_of l.world in
    string_bytes l.fn.text ++ replication_lines w w.replications
    ≡ string_bytes l.all ++ replication_lines w (drop l.i w.replications)
