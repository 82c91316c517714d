use Rattle.std.proofs.Common.{◌∙◌, ap, sym}
use Rattle.std.proofs.lemmas.List.Folds.{list_any_at}
use Rattle.std.specs.Str.{bytes_eq}
use Rattle.rx_value.proofs.Bytes.{bytes_itself}
use Rattle.rx_wire.specs.declared.message.PushRow.{PushRow}
use Rattle.rx_fork.specs.BadReply.{first_foreign}
use Rattle.rx_fork.proofs.Ordered.{left_foreign}
use Rattle.rx_fork.proofs.fitting.are_in_order.Goals as goal

pub loop-row-preserved : goal.loop-row-preserved
loop-row-preserved c = λ none.
    let rows = c.args.rows.now in
    let row = c.row-item.result in
    c.loop-row.invariant (left_foreign rows c.loop-row.left.now row
    (list_any_at (λ (r : PushRow). bytes_eq r.new.key row.new.key) rows c.loop-row.row-index row
    c.loop-row-test.true
    (ap (λ (r : PushRow). bytes_eq r.new.key row.new.key) (sym c.row-item.is)
    ∙ bytes_itself row.new.key))
    (ap (first_foreign rows) (sym c.conflicts_left-left.ensures) ∙ none))
