use Rattle.std.proofs.Common.{subst}
use Rattle.std.proofs.lemmas.Result.{IfOk-weaker}
use Rattle.rx_record.specs.Parts.{text_bytes, text_of}
use Rattle.rx_record.specs.Writable.{ShortReadsBack}
use Rattle.rx_record.proofs.WrittenParts.{set_reads_back}
use Rattle.rx_record.proofs.step_list.put_set.Goals as goal

pub returns-clause-back : goal.returns-clause-back
returns-clause-back c =
    IfOk-weaker c.put_value.result _ _
    (λ _ back. set_reads_back c.args.field.now c.args.value.now c.requires
    (subst (ShortReadsBack text_bytes text_of) c.as_str.ensures c.in_ok-put_text.ensures.back) back)
    c.put_value.ensures.back
