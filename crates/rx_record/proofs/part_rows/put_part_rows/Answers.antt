use Rattle.std.proofs.Common.{◌≡◌, List, ℕ, length, refl, ◌++◌, take, slice_get, Some, ap, sym, ◌∙◌, arith, w64}
use Rattle.std.proofs.lemmas.Option.{slice_get_read}
use Rattle.rx_record.specs.Parts.{number_bytes}
use Rattle.rx_record.specs.Fields.{all_bytes}
use Rattle.rx_record.specs.Rows.{state_bytes}
use Rattle.rx_record.specs.PartRows.{part_row_bytes}
use Rattle.rx_record.proofs.Written.{one_more, all_more}
use Rattle.rx_record.proofs.WrittenParts.{PartRowReadsBack, part_row_reads_back, part_rows_read_back, three_more}
use Rattle.rx_record.proofs.part_rows.put_part_rows.Goals as goal

pub loop-row-preserved : goal.loop-row-preserved
loop-row-preserved c =
    let rows = c.args.rows.now in
    let row = c.row-item.result in
    let before = c.put_count.new.out.items in
    let front = all_bytes part_row_bytes (take c.loop-row.row-index rows) in
    let there : slice_get rows c.loop-row.row-index ≡ Some row =
    slice_get_read rows (length rows) c.loop-row.row-index row refl
    (omega (arith, c.loop-row-test.true)) c.row-item.is in
    record {
      bytes =
          three_more before front (number_bytes w64 row.lwt) (number_bytes w64 row.height)
          (state_bytes row.state) _ _ _ _
          c.loop-row.invariant.bytes c.in_ok-put_long.ensures.bytes c.in_ok-put_long-2.ensures.bytes
          c.in_ok-put_state.ensures.bytes
          ∙ ap (λ (l : List ℕ). before ++ l)
          (sym (one_more part_row_bytes rows c.loop-row.row-index row there));
      back =
          all_more PartRowReadsBack rows c.loop-row.row-index row there c.loop-row.invariant.back
          (part_row_reads_back row c.in_ok-put_long.ensures.back c.in_ok-put_long-2.ensures.back
          c.in_ok-put_state.ensures.back);
    }

pub returns-clause-back : goal.returns-clause-back
returns-clause-back c rising =
    part_rows_read_back c.args.rows.now c.loop-row.row-index
    (omega (arith, c.loop-row-test.false)) rising c.loop-row.invariant.back
