-- States, lists of them, and rows.
use Rattle.std.specs.Prelude.{ℕ, List, ◌++◌, Option, Ok}
use Rattle.std.specs.Int.{w64}
use Rattle.rx_value.specs.declared.state.State.{State}
use Rattle.rx_record.specs.declared.record.RowOut.{RowOut}
use Rattle.rx_record.specs.Reading.{Reading, ◌▸◌}
use Rattle.rx_record.specs.Parts.{flag_bytes, flag_of, number_bytes, number_of, text_bytes, text_above}
use Rattle.rx_record.specs.Fields.{list_bytes, rising_of, list_of, fields_bytes, fields_of}

-- a state: its key, the mark of deletion and the fields
abbrev pub state_bytes : State → List ℕ
state_bytes s = text_bytes s.key ++ (flag_bytes s.deleted ++ fields_bytes s.fields)

abbrev pub state_of : Option (List ℕ) → List ℕ → Reading State
state_of last bs =
    text_above last bs ▸ λ key more.
    flag_of more ▸ λ deleted more.
    fields_of more ▸ λ fields rest.
    Ok (record { key = key; fields = fields; deleted = deleted }, rest)

-- states: a list by rising key
abbrev pub states_bytes : List State → List ℕ
states_bytes = list_bytes state_bytes

abbrev pub state_key : State → List ℕ
state_key s = s.key

abbrev pub states_from : ℕ → Option (List ℕ) → List ℕ → Reading (List State)
states_from = rising_of state_key state_of

abbrev pub states_of : List ℕ → Reading (List State)
states_of = list_of state_key state_of

-- a row: its height in eight bytes, and the state
abbrev pub row_bytes : RowOut → List ℕ
row_bytes r = number_bytes w64 r.height ++ state_bytes r.state

abbrev pub row_of : Option (List ℕ) → List ℕ → Reading RowOut
row_of last bs =
    number_of w64 bs ▸ λ height more.
    state_of last more ▸ λ state rest.
    Ok (record { height = height; state = state }, rest)

-- rows: a list by rising key
abbrev pub rows_bytes : List RowOut → List ℕ
rows_bytes = list_bytes row_bytes

abbrev pub key_of : RowOut → List ℕ
key_of row = row.state.key

abbrev pub rows_from : ℕ → Option (List ℕ) → List ℕ → Reading (List RowOut)
rows_from = rising_of key_of row_of

abbrev pub rows_of : List ℕ → Reading (List RowOut)
rows_of = list_of key_of row_of
