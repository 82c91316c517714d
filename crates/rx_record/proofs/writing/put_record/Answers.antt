use Rattle.std.proofs.Common.{◌≡◌, IfOk, List, sym, subst}
use Rattle.std.proofs.lemmas.Result.{IfOk-weaker}
use Rattle.rx_record.specs.Content.{content_bytes, content_of}
use Rattle.rx_record.specs.Parts.{text_bytes, text_of}
use Rattle.rx_record.specs.Rows.{rows_bytes, rows_of}
use Rattle.rx_record.specs.Shown.{content}
use Rattle.rx_record.specs.Writable.{IsOrdered, KeysRise, ShortReadsBack}
use Rattle.rx_record.specs.declared.record.Record.{Record}
use Rattle.rx_record.specs.declared.record.RowOut.{RowOut}
use Rattle.rx_record.proofs.Written.{written_reads_back}
use Rattle.rx_record.proofs.writing.put_record.Goals as goal

pub returns-in_ok-put_long-in-Rows-clause-back : goal.returns-in_ok-put_long-in-Rows-clause-back
returns-in_ok-put_long-in-Rows-clause-back c ordered =
    let rows : List RowOut = c.in-Rows.rows.items in
    let is : c.as_slice.result.now ≡ rows = c.as_slice.ensures.value in
    let rise : KeysRise rows = subst (λ w. IsOrdered (content w)) c.in-Rows.is ordered in
    subst (λ (w : Record).
    IfOk c.put_rows.result (λ _. ShortReadsBack content_bytes content_of (content w)))
    (sym c.in-Rows.is)
    (IfOk-weaker c.put_rows.result _ _
    (λ _ back. written_reads_back c.in-Rows.name c.in-Rows.lwt rows
    (subst (ShortReadsBack text_bytes text_of) c.as_str-in-Rows.ensures
    c.in_ok-put_text-in-Rows.ensures.back)
    c.in_ok-put_long-in-Rows.ensures.back (subst (ShortReadsBack rows_bytes rows_of) is back))
    (c.put_rows.ensures.back (subst KeysRise (sym is) rise)))
