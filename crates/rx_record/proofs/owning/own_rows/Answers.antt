use Rattle.std.proofs.Common.{◌≡◌, [], ◌∷◌, ◌++◌, ◌-◌, None, ap, sym, ◌∙◌, append_assoc, rules}
use Rattle.rx_record.specs.Reading.{read_or}
use Rattle.rx_record.specs.Rows.{row_of, key_of, rows_from}
use Rattle.rx_record.proofs.Reread.{row_free, past}
use Rattle.rx_record.proofs.AtEnd.{read_whole}
use Rattle.rx_record.proofs.Lists.{first_read}
use Rattle.rx_record.proofs.owning.own_rows.Goals as goal

pub loop-left-init : goal.loop-left-init
loop-left-init c = record { read = read_whole _ (search rules); all = search rules }

pub own_row-requires : goal.own_row-requires
own_row-requires c =
    first_read (λ _. []) key_of row_of c.loop-left.left None c.loop-left.rest.now
    c.loop-left-test.true c.loop-left.invariant.read

pub loop-left-preserved : goal.loop-left-preserved
loop-left-preserved c =
    let next = past key_of row_of row_free c.loop-left.left c.loop-left.rest.now _ _
    c.loop-left-test.true c.in_ok-row.ensures c.loop-left.invariant.read in
    let others = read_or [] (rows_from (c.loop-left.left - 1) None c.in_ok-row.behind.now) in
    let pushed : c.push.new.self.items ≡ c.loop-left.owned.items ++ c.in_ok-row.row ∷ [] =
    search rules in
    record {
      read = next.read;
      all = c.loop-left.invariant.all ∙ ap (λ l. c.loop-left.owned.items ++ l) next.all
          ∙ sym (append_assoc c.loop-left.owned.items (c.in_ok-row.row ∷ []) others)
          ∙ ap (λ l. l ++ others) (sym pushed);
    }
