use Rattle.std.proofs.Common.{◌≡◌, ◌++◌, ◌∙◌, ℕ, sym, ap, subst, IfOk, unwrap_or, string_bytes}
use Rattle.rx_reply.specs.Writing.{output_line}
use Rattle.rx_host.specs.Report.{pending_at, replication_data}
use Rattle.rx_host.specs.Worlds.{world_of}
use Rattle.rx_host.proofs.report.add_replication.Goals as goal

pub returns : goal.returns
returns c =
    let r = c.args.replication.now in
    let line = rw (c.in_ok-put_replication.ensures.before, c.line_after-writer.ensures.before)
    at c.finish_line.ensures (replication_data r.name r c.pending-count.result)
    (rw c.line_after-writer.ensures.tokens at c.in_ok-put_replication.ensures.tokens) in
    let count : c.pending-count.result ≡ pending_at (world_of c.args.world.now) r.name =
    sym (ap (λ o. unwrap_or o 0) c.pending-count.ensures)
    ∙ ap (pending_at (world_of c.args.world.now)) c.as_str.ensures in
    subst (λ (n : ℕ). IfOk c.finish_line.result (λ t. string_bytes t
    ≡ string_bytes c.args.text ++ output_line (replication_data r.name r n))) count line
