-- Rows of a part that were read.
use Rattle.std.proofs.Common.{◌≡◌, ◌++◌, true, Option, None, refl, w32, w64}
use Rattle.rx_document.specs.Place.{place_cmp, place_total}
use Rattle.rx_document.specs.declared.place.Place.{Place}
use Rattle.rx_record.specs.Parts.{number_bytes, number_of, is_above_by}
use Rattle.rx_record.specs.PartRows.{part_row_bytes, row_place, some_part_row_of, part_row_of, part_rows_bytes, part_rows_of}
use Rattle.rx_record.specs.Writable.{IsWritableState, AreWritablePartRows}
use Rattle.rx_record.specs.declared.record.PartRow.{PartRow}
use Rattle.rx_record.proofs.Kept.{chain_keeps, chain_rises}
use Rattle.rx_record.proofs.Formats.{IsFormat, next, last, whole_format, tested_format, long_format, count_format, state_format}
use Rattle.rx_record.proofs.ListFormats.{list_format}

abbrev pub HasWritableState : PartRow → Type 0
HasWritableState r = IsWritableState r.state

some_part_row_format : IsFormat part_row_bytes some_part_row_of HasWritableState
some_part_row_format = whole_format part_row_bytes HasWritableState
    (next part_row_bytes HasWritableState long_format (λ l. l) _ (λ lwt _.
    next part_row_bytes HasWritableState long_format (λ l. number_bytes w64 lwt ++ l) _ (λ height _.
    last part_row_bytes HasWritableState state_format
    (λ l. number_bytes w64 lwt ++ (number_bytes w64 height ++ l))
    (λ state. let r : PartRow = record { lwt = lwt; height = height; state = state } in r)
    (λ state. refl) (λ state writable. writable))))

pub part_row_format : (last : Option Place)
    → IsFormat part_row_bytes (part_row_of last)
    (λ r. (is_above_by place_cmp last (row_place r) ≡ true) × HasWritableState r)
part_row_format last =
    tested_format some_part_row_format (λ r. is_above_by place_cmp last (row_place r)) _
    (λ r above writable. (above, writable))

pub part_rows_format : IsFormat part_rows_bytes part_rows_of AreWritablePartRows
part_rows_format =
    list_format part_row_bytes row_place part_row_of
    (is_above_by place_cmp) HasWritableState part_row_format
    (number_of w32) count_format AreWritablePartRows
    (λ rs few chain. record {
      count = few;
      rising = chain_rises part_row_bytes row_place part_row_of place_cmp place_total
          HasWritableState None rs chain;
      states = chain_keeps part_row_bytes row_place part_row_of
          (is_above_by place_cmp) HasWritableState None rs chain;
    })
