use Rattle.std.proofs.Common.{◌++◌, List, ℕ, string_bytes}
use Rattle.rx_reply.specs.Writing.{output_line}
use Rattle.rx_world.specs.declared.replication.Replication.{Replication}
use Rattle.rx_host.specs.Report.{pending_at, replication_data, replication_lines}
use Rattle.rx_host.specs.Worlds.{world_of}
use Rattle.rx_host.proofs.Reports.{named_at, one_line}
use Rattle.rx_host.proofs.report.add_replications.Goals as goal

pub add_replication-requires-clause-held : goal.add_replication-requires-clause-held
add_replication-requires-clause-held c =
    named_at (world_of c.args.world.now).replications c.loop-i.i c.replication_at.result.now.name
    c.replication_at.result.now c.replication_at.ensures

pub loop-i-preserved : goal.loop-i-preserved
loop-i-preserved c =
    let w = world_of c.args.world.now in
    let r = c.replication_at.result.now in
    let line : List ℕ × Replication → List ℕ = λ e.
    output_line (replication_data e.0 e.1 (pending_at w e.0)) in
    one_line line w.replications c.loop-i.i (r.name, r)
    (string_bytes c.args.text ++ replication_lines w w.replications) (string_bytes c.loop-i.all)
    (string_bytes c.in_ok-all.all) c.replication_at.ensures c.in_ok-all.ensures c.loop-i.invariant
