use Rattle.std.proofs.Common.{subst}
use Rattle.std.proofs.lemmas.Result.{IfOk-weaker}
use Rattle.rx_record.specs.Parts.{text_bytes, text_of}
use Rattle.rx_record.specs.Writable.{ShortReadsBack}
use Rattle.rx_record.proofs.WrittenParts.{scale_reads_back}
use Rattle.rx_record.proofs.step_list.put_scale.Goals as goal

pub returns-clause-back : goal.returns-clause-back
returns-clause-back c =
    IfOk-weaker c.put_short.result _ _
    (λ _ back. scale_reads_back c.args.field.now c.args.by c.requires
    (subst (ShortReadsBack text_bytes text_of) c.as_str.ensures c.in_ok-put_text.ensures.back) back)
    c.put_short.ensures.back
