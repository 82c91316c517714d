use Rattle.std.proofs.Common.{◌≡◌, ◌++◌, List, ℕ, subst, string_bytes}
use Rattle.rx_collection.specs.Held.{Held}
use Rattle.rx_reply.specs.Writing.{output_line}
use Rattle.rx_host.specs.Report.{collection_data, collection_lines}
use Rattle.rx_host.specs.Worlds.{world_of}
use Rattle.rx_host.proofs.Reports.{one_line}
use Rattle.rx_host.proofs.report.collection_lines.Goals as goal

pub loop-i-preserved : goal.loop-i-preserved
loop-i-preserved c =
    let cs = (world_of c.args.world.now).collections in
    let coll : Held = c.holder_at.result.now.collection in
    let line : List ℕ × Held → List ℕ = λ e. output_line (collection_data e.0 e.1) in
    let added = subst (λ (h : Held). string_bytes c.in_ok-text.text
    ≡ string_bytes c.loop-i.text ++ output_line (collection_data h.name h)) c.collection.ensures
    c.in_ok-text.ensures in
    one_line line cs c.loop-i.i (coll.name, coll) (collection_lines cs)
    (string_bytes c.loop-i.text) (string_bytes c.in_ok-text.text) c.holder_at.ensures.found added
    c.loop-i.invariant
