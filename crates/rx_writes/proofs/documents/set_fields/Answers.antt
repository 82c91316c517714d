use Rattle.std.proofs.Common.{◌≡◌, ◌+◌, ◌∙◌, ap, drop}
use Rattle.rx_value.specs.Fields.{Pair, Pairs}
use Rattle.rx_value.specs.Named.{put_in_order}
use Rattle.rx_value.proofs.Lists.{drop_at}
use Rattle.rx_writes.specs.Documents.{with_fields}
use Rattle.rx_writes.proofs.documents.set_fields.Goals as goal

pub loop-i-preserved : goal.loop-i-preserved
loop-i-preserved c =
    let pair : Pair = (c.at.result.0.now, c.at.result.1.now) in
    let is : put_in_order c.loop-i.fields pair.0 pair.1 ≡ c.set.new.self =
    cc (c.in_ok-set.ensures.ok, c.in_ok-copy.ensures, c.in_ok-copy-2.ensures) in
    c.loop-i.invariant
    ∙ ap (with_fields c.loop-i.fields) (drop_at c.args.more.now c.loop-i.i pair c.at.ensures)
    ∙ ap (λ (ps : Pairs). with_fields ps (drop (c.loop-i.i + 1) c.args.more.now)) is
