use Rattle.std.proofs.Common.{subst}
use Rattle.std.proofs.lemmas.Result.{IfOk-weaker}
use Rattle.rx_record.specs.Parts.{text_bytes, text_of}
use Rattle.rx_record.specs.Writable.{ShortReadsBack}
use Rattle.rx_record.proofs.WrittenParts.{rename_reads_back}
use Rattle.rx_record.proofs.step_list.put_rename.Goals as goal

pub returns-clause-back : goal.returns-clause-back
returns-clause-back c =
    IfOk-weaker c.put_text-2.result _ _
    (λ _ back. rename_reads_back c.args.field.now c.args.to.now c.requires
    (subst (ShortReadsBack text_bytes text_of) c.as_str.ensures c.in_ok-put_text.ensures.back)
    (subst (ShortReadsBack text_bytes text_of) c.as_str-2.ensures back))
    c.put_text-2.ensures.back
