-- What holds of every message that was read, and has to hold of one that is to be read back.
use Rattle.std.specs.Prelude.{◌≡◌, ℕ, ◌≤◌, List, length, map, Option, None, Some, IfSome, Ok}
use Rattle.std.specs.List.{AllByRecursion, IsDistinct}
use Rattle.std.specs.Str.{bytes_eq}
use Rattle.serde_json.specs.Data.{Data}
use Rattle.rx_value.specs.Named.{named}
use Rattle.rx_value.specs.declared.state.State.{State}
use Rattle.rx_value.specs.declared.value.Value.TheVariants.{Text}
use Rattle.rx_document.specs.declared.place.Place.{Place}
use Rattle.rx_schema.specs.Reading.{schema_of}
use Rattle.rx_schema.specs.Validity.{first_fault}
use Rattle.rx_schema.specs.declared.shape.Shape.{Shape}
use Rattle.rx_wire.specs.Limits.{most_states, IsCount}
use Rattle.rx_wire.specs.States.{row_key, state_key}
use Rattle.rx_wire.specs.declared.message.AskKind.{AskKind}
use Rattle.rx_wire.specs.declared.message.AskKind.TheVariants.{Push, Pull}
use Rattle.rx_wire.specs.declared.message.Body.{Body}
use Rattle.rx_wire.specs.declared.message.Body.TheVariants.{Conflicts, Docs}
use Rattle.rx_wire.specs.declared.message.PushRow.{PushRow}
use Rattle.rx_wire.specs.declared.message.Reply.{Reply}
use Rattle.rx_wire.specs.declared.message.Request.{Request}

-- a schema that some JSON says, as every schema that was read
abbrev pub IsSaid : Shape → Type 0
IsSaid s = (d : Data) × (schema_of d ≡ Ok s)

-- valid fields that hold the key
pub record IsState (s : Shape) (state : State) : Type 0 where
  pub valid : first_fault s state.fields ≡ None
  pub carried : named state.fields s.primary ≡ Some (Text state.key)

-- states of one key
pub record IsRow (s : Shape) (row : PushRow) : Type 0 where
  pub new : IsState s row.new
  pub assumed : IfSome row.assumed (IsState s)
  pub one_key : IfSome row.assumed (λ state. state.key ≡ row.new.key)

-- from one to a hundred rows with keys that differ
pub record AreRows (s : Shape) (rows : List PushRow) : Type 0 where
  pub some : 1 ≤ length rows
  pub few : length rows ≤ most_states
  pub each : AllByRecursion (IsRow s) rows
  pub distinct : IsDistinct bytes_eq (map row_key rows)

-- at most a hundred states with keys that differ
pub record AreStates (s : Shape) (states : List State) : Type 0 where
  pub few : length states ≤ most_states
  pub each : AllByRecursion (IsState s) states
  pub distinct : IsDistinct bytes_eq (map state_key states)

-- the time of a write
abbrev pub IsPlace : Place → Type 0
IsPlace place = IsCount place.lwt

-- from one to a hundred documents above a place, or the first ones
pub record IsPull (place : Option Place) (batch : ℕ) : Type 0 where
  pub above : IfSome place IsPlace
  pub some : 1 ≤ batch
  pub few : batch ≤ most_states

-- states, and the place of the last
pub record AreDocs (s : Shape) (states : List State) (place : Option Place) : Type 0 where
  pub given : AreStates s states
  pub last : IfSome place IsPlace

-- what a request asks
abbrev pub IsAsk : Shape → AskKind → Type 0
IsAsk s (Push rows) = AreRows s rows
IsAsk s (Pull place batch) = IsPull place batch

-- what a reply answers
abbrev pub IsBody : Shape → Body → Type 0
IsBody s (Conflicts states) = AreStates s states
IsBody s (Docs states place) = AreDocs s states place

-- a request of documents of the schema
pub record IsRequest (s : Shape) (request : Request) : Type 0 where
  pub epoch : IsCount request.epoch
  pub n : IsCount request.n
  pub ask : IsAsk s request.ask

-- a reply of such documents
pub record IsReply (s : Shape) (reply : Reply) : Type 0 where
  pub epoch : IsCount reply.epoch
  pub n : IsCount reply.n
  pub body : IsBody s reply.body
