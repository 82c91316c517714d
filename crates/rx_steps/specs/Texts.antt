-- How long the text of a state may be, and that of a lawful message.
use Rattle.std.specs.Prelude.{◌≡◌, ℕ, ◌<◌, ◌≤◌, List, length, Option, None, Some, IfSome, Ok}
use Rattle.std.specs.List.{AllByRecursion}
use Rattle.std.specs.Str.{IsUtf8}
use Rattle.serde_json.specs.Written.{compact_text}
use Rattle.rx_value.specs.State.{state_data}
use Rattle.rx_value.specs.declared.state.State.{State}
use Rattle.rx_value.specs.declared.value.Value.{Value}
use Rattle.rx_value.specs.declared.value.Value.TheVariants.{Flag, Int, Text}
use Rattle.rx_document.specs.declared.place.Place.{Place}
use Rattle.rx_schema.specs.declared.shape.Shape.{Shape}
use Rattle.rx_wire.specs.Lawful.{IsSaid, IsState, IsRequest, IsReply}
use Rattle.rx_wire.specs.Limits.{longest_line}
use Rattle.rx_wire.specs.Printing.{HasFields}
use Rattle.rx_wire.specs.Spelling.{request_of, reply_of}
use Rattle.rx_wire.specs.Writing.{request_text, reply_text}
use Rattle.rx_wire.specs.declared.message.AskKind.{AskKind}
use Rattle.rx_wire.specs.declared.message.AskKind.TheVariants.{Push, Pull}
use Rattle.rx_wire.specs.declared.message.Body.{Body}
use Rattle.rx_wire.specs.declared.message.Body.TheVariants.{Conflicts, Docs}
use Rattle.rx_wire.specs.declared.message.PushRow.{PushRow}
use Rattle.rx_wire.specs.declared.message.Reply.{Reply}
use Rattle.rx_wire.specs.declared.message.Request.{Request}

-- ---- limits

-- the most bytes of a state's text
abbrev pub longest_state : ℕ
longest_state = 1048576

-- the most bytes of a key: four for each code point that a text may have
abbrev pub longest_key : ℕ
longest_key = 524288

-- ---- what every state, row and place is, by its type

-- the text that a value is, if it is one, is UTF-8
abbrev pub HasText : Value → Type 0
HasText (Flag b) = Unit {0}
HasText (Int n) = Unit {0}
HasText (Text t) = IsUtf8 t

-- the fields rise and are in range, and their texts are UTF-8
pub record IsWellFormed (state : State) : Type 0 where
  pub fields : HasFields state
  pub texts : AllByRecursion (λ p. HasText p.1) state.fields

-- so are the states of a row
pub record RowIsWellFormed (row : PushRow) : Type 0 where
  pub new : IsWellFormed row.new
  pub assumed : IfSome row.assumed IsWellFormed

-- the key of a place is UTF-8
abbrev pub PlaceIsText : Place → Type 0
PlaceIsText place = IsUtf8 place.id

-- what a request holds is well formed
abbrev pub AskIsWellFormed : AskKind → Type 0
AskIsWellFormed (Push rows) = AllByRecursion RowIsWellFormed rows
AskIsWellFormed (Pull place batch) = IfSome place PlaceIsText

-- the states and the place of a page are
pub record DocsAreWellFormed (states : List State) (place : Option Place) : Type 0 where
  pub given : AllByRecursion IsWellFormed states
  pub last : IfSome place PlaceIsText

-- and so is what a reply holds
abbrev pub BodyIsWellFormed : Body → Type 0
BodyIsWellFormed (Conflicts states) = AllByRecursion IsWellFormed states
BodyIsWellFormed (Docs states place) = DocsAreWellFormed states place

-- ---- the keys of places, which no type bounds

-- one that a document may have
abbrev pub HasShortKey : Place → Type 0
HasShortKey place = length place.id ≤ longest_key

-- the place that a request asks from
abbrev pub asked_place : AskKind → Option Place
asked_place (Push rows) = None
asked_place (Pull place batch) = place

-- the place that a reply gives
abbrev pub given_place : Body → Option Place
given_place (Conflicts states) = None
given_place (Docs states place) = place

-- ---- what holds

-- the text of a valid state is short
abbrev pub StatesAreShort : Type 0
StatesAreShort =
    (s : Shape) (state : State) → IsSaid s → IsState s state → IsWellFormed state
    → length (compact_text (state_data state)) ≤ longest_state

-- and so is its key
abbrev pub KeysAreShort : Type 0
KeysAreShort =
    (s : Shape) (state : State) → IsSaid s → IsState s state → IsWellFormed state
    → length state.key ≤ longest_key

-- the text of a lawful request is no longer than a line may be
abbrev pub RequestsAreShort : Type 0
RequestsAreShort =
    (s : Shape) (r : Request) → IsSaid s → IsRequest s r → AskIsWellFormed r.ask
    → IfSome (asked_place r.ask) HasShortKey → length (request_text s r) ≤ longest_line

-- nor is that of a lawful reply
abbrev pub RepliesAreShort : Type 0
RepliesAreShort =
    (s : Shape) (r : Reply) → IsSaid s → IsReply s r → BodyIsWellFormed r.body
    → IfSome (given_place r.body) HasShortKey → length (reply_text r) ≤ longest_line

-- a request from a place whose key has as many bytes as a line may have is longer, so the keys of
-- places have to be short
abbrev pub LongKeysDoNotFit : Type 0
LongKeysDoNotFit =
    (s : Shape) (epoch n batch : ℕ) (place : Place) → longest_line ≤ length place.id
    → longest_line
    < length (request_text s (record { epoch = epoch; n = n; ask = Pull (Some place) batch }))

-- so what a lawful request is written as is read as it
abbrev pub RequestsReadBack : Type 0
RequestsReadBack =
    (s : Shape) (r : Request) → IsSaid s → IsRequest s r → AskIsWellFormed r.ask
    → IfSome (asked_place r.ask) HasShortKey → request_of s (request_text s r) ≡ Ok r

-- and so is a lawful reply
abbrev pub RepliesReadBack : Type 0
RepliesReadBack =
    (s : Shape) (r : Reply) → IsSaid s → IsReply s r → BodyIsWellFormed r.body
    → IfSome (given_place r.body) HasShortKey → reply_of s (reply_text r) ≡ Ok r
