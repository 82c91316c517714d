-- A state as a JSON object: its fields, with the deletion mark.
use Rattle.std.specs.Prelude.{◌≡◌, ℕ, List, codes, Some, Ok}
use Rattle.serde_json.specs.Data.{Data, boolean, object, put}
use Rattle.serde_json.specs.Find.{get}
use Rattle.serde_json.specs.Read.{read}
use Rattle.rx_value.specs.Reading.{fields_beside}
use Rattle.rx_value.specs.Writing.{pairs_members}
use Rattle.rx_value.specs.declared.state.State.{State}

-- the name of the deletion mark
abbrev pub mark : List ℕ
mark = codes "_deleted"

-- the object of a state
abbrev pub state_data : State → Data
state_data s = object (put mark (boolean s.deleted) (pairs_members s.fields))

-- a text that reads as JSON with the fields and the mark of that state
pub record ReadsAsState (text : List ℕ) (s : State) : Type 0 where
  pub json : Data
  pub reads : read text ≡ Some json
  pub fields : fields_beside mark json ≡ Ok s.fields
  pub deleted : get mark json ≡ Some (boolean s.deleted)
