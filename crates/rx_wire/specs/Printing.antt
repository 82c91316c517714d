-- The tokens of parts of a message, and what printing shows of its states.
use Rattle.std.specs.Prelude.{Bool, List, [], ◌∷◌, codes, if◌then◌else◌, Option, Some, None, IfSome}
use Rattle.std.specs.List.{AllByRecursion}
use Rattle.json.specs.Token.{Token, key}
use Rattle.json.specs.Tree.{json_tokens, members_tokens}
use Rattle.serde_json.specs.Data.{boolean, put}
use Rattle.serde_json.specs.Written.{outline, members_outline}
use Rattle.rx_value.specs.Fields.{Pairs, AreFields}
use Rattle.rx_value.specs.State.{mark, state_data}
use Rattle.rx_value.specs.Writing.{pairs_members}
use Rattle.rx_value.specs.declared.state.State.{State}
use Rattle.rx_document.specs.declared.place.Place.{Place}
use Rattle.rx_wire.specs.Writing.{place_data}
use Rattle.rx_wire.specs.declared.message.AskKind.{AskKind}
use Rattle.rx_wire.specs.declared.message.AskKind.TheVariants.{Push, Pull}
use Rattle.rx_wire.specs.declared.message.Body.{Body}
use Rattle.rx_wire.specs.declared.message.Body.TheVariants.{Conflicts, Docs}
use Rattle.rx_wire.specs.declared.message.PushRow.{PushRow}

-- the member of a place, where there is one
abbrev pub place_tokens : Option Place → List Token
place_tokens None = []
place_tokens (Some p) = key (codes "place") ∷ json_tokens (outline (place_data p))

-- the member of an assumed state, where there is one
abbrev pub assumed_tokens : Option State → List Token
assumed_tokens None = []
assumed_tokens (Some state) = key (codes "assumed") ∷ json_tokens (outline (state_data state))

-- the tokens of the pairs that are left, with the mark among them unless it was printed
abbrev pub tokens_left : Bool → Bool → Pairs → List Token
tokens_left marked deleted ps =
    members_tokens (members_outline
    (if marked then pairs_members ps else put mark (boolean deleted) (pairs_members ps)))

-- the fields of a state rise and are in range, as those of every state do
abbrev pub HasFields : State → Type 0
HasFields state = AreFields state.fields

-- the same of the states of a row
pub record RowHasFields (row : PushRow) : Type 0 where
  pub new : HasFields row.new
  pub assumed : IfSome row.assumed HasFields

-- of those of a request
abbrev pub AskHasFields : AskKind → Type 0
AskHasFields (Push rows) = AllByRecursion RowHasFields rows
AskHasFields (Pull place batch) = Unit {0}

-- and of those of a reply
abbrev pub BodyHasFields : Body → Type 0
BodyHasFields (Conflicts states) = AllByRecursion HasFields states
BodyHasFields (Docs states place) = AllByRecursion HasFields states
