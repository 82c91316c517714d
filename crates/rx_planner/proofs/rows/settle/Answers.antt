use Rattle.std.proofs.Common.{Bor, map, take, sym, ap, ◌∙◌}
use Rattle.std.proofs.lemmas.List.{take-map}
use Rattle.rx_document.specs.declared.stored.Stored.{Stored}
use Rattle.rx_planner.proofs.rows.settle.Goals as goal

pub returns : goal.returns
returns c =
    let now : Bor Stored → Stored = λ r. r.now in
    ap (map now) c.truncate.ensures.items
    ∙ sym (take-map now c.args.wanted c.put_in_order.new.rows.items)
    ∙ ap (take c.args.wanted) c.put_in_order.ensures
