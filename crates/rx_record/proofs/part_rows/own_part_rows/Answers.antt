use Rattle.std.proofs.Common.{◌≡◌, [], ◌∷◌, ◌++◌, List, ap, sym, ◌∙◌, append_assoc, rules}
use Rattle.rx_record.specs.Views.{part_row_in, part_rows_left}
use Rattle.rx_record.specs.declared.record.PartRow.{PartRow}
use Rattle.rx_record.proofs.part_rows.own_part_rows.Goals as goal

pub loop-row-preserved : goal.loop-row-preserved
loop-row-preserved c =
    let row = part_row_in c.in-Some.row in
    let left = part_rows_left c.next.new.self in
    let pushed : c.push.new.self.items ≡ c.loop-row.owned.items ++ row ∷ [] = search rules in
    c.loop-row.invariant
    ∙ ap (λ (l : List PartRow). c.loop-row.owned.items ++ l) c.in-Some.ensures.some
    ∙ sym (append_assoc c.loop-row.owned.items (row ∷ []) left)
    ∙ ap (λ (l : List PartRow). l ++ left) (sym pushed)
