use Rattle.std.proofs.Common.{subst}
use Rattle.std.proofs.lemmas.Result.{IfOk-weaker}
use Rattle.rx_record.specs.Parts.{text_bytes, text_of}
use Rattle.rx_record.specs.Writable.{ShortReadsBack}
use Rattle.rx_record.proofs.WrittenParts.{part_reads_back}
use Rattle.rx_record.proofs.part_rows.put_part.Goals as goal

pub returns-clause-back : goal.returns-clause-back
returns-clause-back c rising =
    IfOk-weaker c.put_part_rows.result _ _
    (λ _ rows. part_reads_back c.args.name.now c.args.rows.now
    (subst (ShortReadsBack text_bytes text_of) c.as_str.ensures c.in_ok-put_text.ensures.back) rows)
    (c.put_part_rows.ensures.back rising)
