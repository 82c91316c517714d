use Rattle.std.proofs.Common.{List, ℕ, subst}
use Rattle.std.proofs.lemmas.Result.{IfOk-weaker}
use Rattle.rx_record.specs.Parts.{text_bytes, text_of}
use Rattle.rx_record.specs.Writable.{ShortReadsBack}
use Rattle.rx_record.proofs.WrittenParts.{migration_reads_back}
use Rattle.rx_record.proofs.migration.put_migration.Goals as goal

pub returns-clause-back : goal.returns-clause-back
returns-clause-back c =
    let TextReadsBack : List ℕ → Type 0 = ShortReadsBack text_bytes text_of in
    IfOk-weaker c.put_steps.result _ _
    (λ _ steps. migration_reads_back c.args.name.now c.args.schema.now c.args.steps.now
    (subst TextReadsBack c.as_str.ensures c.in_ok-put_text.ensures.back)
    (subst TextReadsBack c.as_str-2.ensures c.in_ok-put_text-2.ensures.back)
    steps)
    c.put_steps.ensures.back
