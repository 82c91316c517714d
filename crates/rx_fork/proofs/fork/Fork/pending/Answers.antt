use Rattle.std.proofs.Common.{◌∙◌, ap, length, filter, option_map}
use Rattle.rx_collection.specs.Since.{since}
use Rattle.rx_replication.specs.Known.{is_pending}
use Rattle.rx_fork.proofs.Walk.{pending_above}
use Rattle.rx_fork.proofs.fork.Fork.pending.Goals as goal

pub returns : goal.returns
returns c =
    let held = c.args.collection.now in
    let known = c.args.self.now.meta.now.known in
    c.count_pending.ensures
    ∙ ap (λ ds. length (filter (is_pending known) ds)) (c.page.ensures.documents
    ∙ ap (λ n. since held.documents (option_map (λ p. p.now) c.up.result) n) c.len.ensures.count
    ∙ ap (λ up. since held.documents up (length held.documents)) c.up.ensures)
    ∙ ap length
    (pending_above held known c.args.self.now.meta.now.up c.len.ensures.lawful c.requires)
