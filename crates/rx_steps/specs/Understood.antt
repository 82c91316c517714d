-- Each end of a replication reads what the other wrote, however long it is.
use Rattle.std.specs.Prelude.{◌≡◌, ℕ, ◌≤◌, List, IfSome, Option, None, Some, Ok}
use Rattle.rx_value.specs.Named.{named}
use Rattle.rx_value.specs.declared.state.State.{State}
use Rattle.rx_document.specs.Documents.{Documents}
use Rattle.rx_document.specs.declared.place.Place.{Place}
use Rattle.rx_document.specs.declared.stored.Stored.{Stored}
use Rattle.rx_collection.specs.Held.{Held}
use Rattle.rx_schema.specs.declared.shape.Shape.{Shape}
use Rattle.rx_wire.specs.Lawful.{IsBody, IsRequest, IsSaid}
use Rattle.rx_wire.specs.Limits.{IsCount, most_states}
use Rattle.rx_wire.specs.Spelling.{request_of, reply_of}
use Rattle.rx_wire.specs.Writing.{request_text, reply_text}
use Rattle.rx_wire.specs.declared.message.AskKind.{AskKind}
use Rattle.rx_wire.specs.declared.message.Body.{Body}
use Rattle.rx_wire.specs.declared.message.Request.{Request}
use Rattle.rx_fork.specs.BadReply.{bad_reply}
use Rattle.rx_fork.specs.declared.ask.Asked.{Asked}
use Rattle.rx_world.specs.Made.{IsMadeWorld}
use Rattle.rx_world.specs.World.{World}
use Rattle.rx_sync.specs.Asking.{asked_in}
use Rattle.rx_sync.specs.Handling.{Handled, handled}
use Rattle.rx_sync.specs.Laws.{ForFork}
use Rattle.rx_steps.specs.Texts.{IsWellFormed, PlaceIsText, AskIsWellFormed, BodyIsWellFormed, HasShortKey, asked_place, given_place}

-- the states of documents are well formed, as their type has it
abbrev pub DocumentsAreWellFormed : Documents → Type 0
DocumentsAreWellFormed documents =
    (key : List ℕ) (d : Stored) → named documents key ≡ Some d → IsWellFormed d.state

-- and so are states that are known
abbrev pub KnownAreWellFormed : List (List ℕ × State) → Type 0
KnownAreWellFormed known =
    (key : List ℕ) (state : State) → named known key ≡ Some state → IsWellFormed state

-- what a fork asks is read as that request, where the key of the place that it has pulled up to is
-- short
abbrev pub AsksAreUnderstood : Type 0
AsksAreUnderstood =
    (w : World) → IsMadeWorld w → IsCount w.epoch → (name : List ℕ) (n batch : ℕ) → IsCount n
    → 1 ≤ batch → batch ≤ most_states → (asked : Asked) → asked_in w name n batch ≡ Some asked
    → ForFork w name (λ r fork. DocumentsAreWellFormed fork.documents
    → KnownAreWellFormed r.side.known → IfSome r.side.down PlaceIsText
    → IfSome r.side.down HasShortKey
    → request_of fork.schema (request_text fork.schema asked.request) ≡ Ok asked.request)

-- and what a collection answers to a lawful request of its schema is read as that reply, where the
-- key of the place that the request has is short
abbrev pub AnswersAreUnderstood : Type 0
AnswersAreUnderstood =
    (w : World) → IsMadeWorld w → (name : List ℕ) (c : Held) → named w.collections name ≡ Some c
    → DocumentsAreWellFormed c.documents → (q : Request) → IsRequest c.schema q
    → AskIsWellFormed q.ask → IfSome (asked_place q.ask) HasShortKey → (now : ℕ) (h : Handled)
    → handled w name q now ≡ Some h → reply_of c.schema (reply_text h.reply) ≡ Ok h.reply

-- Whatever a master says, a fork refuses a reply with another place than its own or that of the
-- last state: so the keys of the places that it takes stay short.
abbrev pub TakenKeysAreShort : Type 0
TakenKeysAreShort =
    (s : Shape) → IsSaid s → (down : Option Place) (ask : AskKind) (body : Body) → IsBody s body
    → BodyIsWellFormed body → bad_reply down ask body ≡ None → IfSome down HasShortKey
    → IfSome (given_place body) HasShortKey
