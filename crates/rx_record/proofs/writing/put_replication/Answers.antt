use Rattle.std.proofs.Common.{List, ℕ, subst}
use Rattle.std.proofs.lemmas.Result.{IfOk-weaker}
use Rattle.rx_record.specs.Parts.{text_bytes, text_of}
use Rattle.rx_record.specs.Writable.{ShortReadsBack}
use Rattle.rx_record.proofs.Written.{replication_reads_back}
use Rattle.rx_record.proofs.writing.put_replication.Goals as goal

pub returns-clause-back : goal.returns-clause-back
returns-clause-back c =
    let TextReadsBack : List ℕ → Type 0 = ShortReadsBack text_bytes text_of in
    IfOk-weaker c.put_text_if_there.result _ _
    (λ _ field. replication_reads_back c.args.name.now c.args.fork.now c.args.master.now
    c.args.handler.now c.args.field.now
    (subst TextReadsBack c.as_str.ensures c.in_ok-put_text.ensures.back)
    (subst TextReadsBack c.as_str-2.ensures c.in_ok-put_text-2.ensures.back)
    c.in_ok-put_master.ensures.back
    (subst TextReadsBack c.as_str-3.ensures c.in_ok-put_text-3.ensures.back)
    field)
    c.put_text_if_there.ensures.back
