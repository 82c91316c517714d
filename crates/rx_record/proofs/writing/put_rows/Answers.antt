use Rattle.std.proofs.Common.{◌≡◌, List, ℕ, length, refl, ◌++◌, take, slice_get, Some, ap, sym, ◌∙◌, append_assoc, arith, w64}
use Rattle.std.proofs.lemmas.Option.{slice_get_read}
use Rattle.rx_record.specs.Parts.{number_bytes}
use Rattle.rx_record.specs.Fields.{all_bytes}
use Rattle.rx_record.specs.Rows.{state_bytes, row_bytes}
use Rattle.rx_record.proofs.Written.{one_more, all_more, RowReadsBack, row_reads_back, rows_read_back}
use Rattle.rx_record.proofs.writing.put_rows.Goals as goal

pub loop-row-preserved : goal.loop-row-preserved
loop-row-preserved c =
    let rows = c.args.rows.now in
    let row = c.row-item.result in
    let before = c.put_count.new.out.items in
    let front = all_bytes row_bytes (take c.loop-row.row-index rows) in
    let there : slice_get rows c.loop-row.row-index ≡ Some row =
    slice_get_read rows (length rows) c.loop-row.row-index row refl
    (omega (arith, c.loop-row-test.true)) c.row-item.is in
    record {
      bytes =
          c.in_ok-put_state.ensures.bytes
          ∙ ap (λ (l : List ℕ). l ++ state_bytes row.state)
          (c.in_ok-put_long.ensures.bytes
          ∙ ap (λ (l : List ℕ). l ++ number_bytes w64 row.height) c.loop-row.invariant.bytes)
          ∙ append_assoc (before ++ front) (number_bytes w64 row.height) (state_bytes row.state)
          ∙ append_assoc before front (row_bytes row)
          ∙ ap (λ (l : List ℕ). before ++ l)
          (sym (one_more row_bytes rows c.loop-row.row-index row there));
      back =
          all_more RowReadsBack rows c.loop-row.row-index row there c.loop-row.invariant.back
          (row_reads_back row c.in_ok-put_long.ensures.back c.in_ok-put_state.ensures.back);
    }

pub returns-clause-back : goal.returns-clause-back
returns-clause-back c rising =
    rows_read_back c.args.rows.now c.loop-row.row-index
    (omega (arith, c.loop-row-test.false)) rising c.loop-row.invariant.back
