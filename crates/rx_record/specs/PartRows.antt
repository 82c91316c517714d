-- The rows of a part: documents with their write times.
use Rattle.std.specs.Prelude.{ℕ, List, ◌++◌, length, if◌then◌else◌, Option, None, Ok, Err}
use Rattle.std.specs.Int.{w64}
use Rattle.rx_document.specs.Place.{place_cmp}
use Rattle.rx_document.specs.declared.place.Place.{Place}
use Rattle.rx_record.specs.Reading.{Reading, ◌▸◌}
use Rattle.rx_record.specs.Parts.{number_bytes, number_of, is_above_by}
use Rattle.rx_record.specs.Fields.{list_bytes, rising_of, list_of}
use Rattle.rx_record.specs.Rows.{state_bytes, state_of}
use Rattle.rx_record.specs.declared.record.PartRow.{PartRow}

-- a row: its write time and its height in eight bytes each, and the state
abbrev pub part_row_bytes : PartRow → List ℕ
part_row_bytes r = number_bytes w64 r.lwt ++ (number_bytes w64 r.height ++ state_bytes r.state)

-- its place
abbrev pub row_place : PartRow → Place
row_place r = record { lwt = r.lwt; id = r.state.key }

abbrev pub some_part_row_of : List ℕ → Reading PartRow
some_part_row_of bs =
    number_of w64 bs ▸ λ lwt more.
    number_of w64 more ▸ λ height more.
    state_of None more ▸ λ state rest.
    Ok (record { lwt = lwt; height = height; state = state }, rest)

-- one whose place is above that of the one before
abbrev pub part_row_of : Option Place → List ℕ → Reading PartRow
part_row_of last bs = some_part_row_of bs ▸ λ r rest.
    if is_above_by place_cmp last (row_place r) then Ok (r, rest) else Err (length bs)

-- rows: a list by rising place
abbrev pub part_rows_bytes : List PartRow → List ℕ
part_rows_bytes = list_bytes part_row_bytes

abbrev pub part_rows_from : ℕ → Option Place → List ℕ → Reading (List PartRow)
part_rows_from = rising_of row_place part_row_of

abbrev pub part_rows_of : List ℕ → Reading (List PartRow)
part_rows_of = list_of row_place part_row_of
