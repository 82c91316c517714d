use Rattle.rx_record.proofs.Written.{always, text_reads_back}
use Rattle.rx_record.proofs.writing.put_text.Goals as goal

pub returns-clause-back : goal.returns-clause-back
returns-clause-back c =
    always c.extend_from_slice.result (text_reads_back c.args.text.now c.utf8.text)
