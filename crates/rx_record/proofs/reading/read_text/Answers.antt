use Rattle.std.proofs.Common.{IsUtf8, subst, sym}
use Rattle.rx_record.proofs.Texts.{text_read, text_foreign}
use Rattle.rx_record.proofs.reading.read_text.Goals as goal

pub returns-in-Ok : goal.returns-in-Ok
returns-in-Ok c =
    let cut = c.in-Some.ensures.cases in
    let read = text_read c.args.bytes.now c.in_ok-size.rest.now c.in_ok-size.size
    c.in_ok-size.ensures cut.0 (subst IsUtf8 cut.1 c.in-Ok.ensures.cases.1) in
    cc (read, cut.1, cut.2, c.in-Ok.ensures.cases.0)

pub returns-in-Err : goal.returns-in-Err
returns-in-Err c =
    let cut = c.in-Some.ensures.cases in
    text_foreign c.args.bytes.now c.in_ok-size.rest.now c.in_ok-size.size c.in_ok-size.ensures cut.0
    (λ text. c.in-Err.ensures.cases.0 (subst IsUtf8 (sym cut.1) text))
