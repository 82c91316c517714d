use Rattle.std.proofs.Common.{subst}
use Rattle.std.proofs.lemmas.Result.{IfOk-weaker}
use Rattle.rx_record.specs.Parts.{text_bytes, text_of}
use Rattle.rx_record.specs.Writable.{ShortReadsBack}
use Rattle.rx_record.proofs.WrittenParts.{drop_reads_back}
use Rattle.rx_record.proofs.step_list.put_drop.Goals as goal

pub returns-clause-back : goal.returns-clause-back
returns-clause-back c =
    IfOk-weaker c.put_text.result _ _
    (λ _ back. drop_reads_back c.args.field.now c.requires
    (subst (ShortReadsBack text_bytes text_of) c.as_str.ensures back))
    c.put_text.ensures.back
