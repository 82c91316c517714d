-- Write times and places.
use Rattle.std.specs.Prelude.{ℕ, List, ◌++◌, length, Bool, ◌&&◌, nat_lt, nat_le, if◌then◌else◌, Ok, Err}
use Rattle.std.specs.Int.{w64}
use Rattle.rx_value.specs.Value.{largest}
use Rattle.rx_document.specs.declared.place.Place.{Place}
use Rattle.rx_record.specs.Reading.{Reading, ◌▸◌}
use Rattle.rx_record.specs.Parts.{number_bytes, number_of, text_bytes, text_of}
use Rattle.rx_record.specs.declared.place_view.PlaceView.{PlaceView}

-- a write time of a document: from 1 to 2^53 - 1
abbrev pub is_time : ℕ → Bool
is_time lwt = nat_lt 0 lwt && nat_le lwt largest

abbrev pub time_of : List ℕ → Reading ℕ
time_of bs = number_of w64 bs ▸ λ lwt more. if is_time lwt then Ok (lwt, more) else Err (length bs)

-- a place: its write time in eight bytes, and the key
abbrev pub place_bytes : Place → List ℕ
place_bytes p = number_bytes w64 p.lwt ++ text_bytes p.id

abbrev pub read_place : List ℕ → Reading Place
read_place bs =
    time_of bs ▸ λ lwt more.
    text_of more ▸ λ id rest.
    Ok (record { lwt = lwt; id = id }, rest)

-- the place that a view shows
abbrev pub place_in : PlaceView → Place
place_in p = record { lwt = p.lwt; id = p.id.now }
