-- The JSON of a message, and its text.
use Rattle.std.specs.Prelude.{ℕ, List, map, codes, Option, Some, None}
use Rattle.serde_json.specs.Data.{Data, number, string, array, object, Items, Members, no_members, member, unsigned}
use Rattle.serde_json.specs.View.{items_of}
use Rattle.serde_json.specs.Written.{compact_text}
use Rattle.rx_value.specs.State.{state_data}
use Rattle.rx_value.specs.declared.state.State.{State}
use Rattle.rx_document.specs.declared.place.Place.{Place}
use Rattle.rx_schema.specs.Writing.{hash_text}
use Rattle.rx_schema.specs.declared.shape.Shape.{Shape}
use Rattle.rx_wire.specs.declared.message.AskKind.{AskKind}
use Rattle.rx_wire.specs.declared.message.AskKind.TheVariants.{Push, Pull}
use Rattle.rx_wire.specs.declared.message.Body.{Body}
use Rattle.rx_wire.specs.declared.message.Body.TheVariants.{Conflicts, Docs}
use Rattle.rx_wire.specs.declared.message.PushRow.{PushRow}
use Rattle.rx_wire.specs.declared.message.Reply.{Reply}
use Rattle.rx_wire.specs.declared.message.Request.{Request}

-- a whole number
abbrev pub whole : ℕ → Data
whole n = number (unsigned n)

-- a place
abbrev pub place_data : Place → Data
place_data p =
    object (member (codes "id") (string p.id) (member (codes "lwt") (whole p.lwt) no_members))

-- a place before other members, where there is one
abbrev pub with_place : Option Place → Members → Members
with_place None more = more
with_place (Some p) more = member (codes "place") (place_data p) more

-- an assumed state before other members, where there is one
abbrev pub with_assumed : Option State → Members → Members
with_assumed None more = more
with_assumed (Some state) more = member (codes "assumed") (state_data state) more

-- a row of a push
abbrev pub row_data : PushRow → Data
row_data row =
    object (with_assumed row.assumed (member (codes "new") (state_data row.new) no_members))

-- a list of rows
abbrev pub rows_items : List PushRow → Items
rows_items rows = items_of (map row_data rows)

-- a list of states
abbrev pub states_items : List State → Items
states_items states = items_of (map state_data states)

-- the members of a request
abbrev pub ask_members : List ℕ → ℕ → ℕ → AskKind → Members
ask_members hash epoch n (Pull place batch) =
    member (codes "ask") (string (codes "pull"))
    (member (codes "batch") (whole batch)
    (member (codes "epoch") (whole epoch)
    (member (codes "n") (whole n)
    (with_place place
    (member (codes "schema") (string hash) no_members)))))
ask_members hash epoch n (Push rows) =
    member (codes "ask") (string (codes "push"))
    (member (codes "epoch") (whole epoch)
    (member (codes "n") (whole n)
    (member (codes "rows") (array (rows_items rows))
    (member (codes "schema") (string hash) no_members))))

-- the members of a reply
abbrev pub body_members : ℕ → ℕ → Body → Members
body_members epoch n (Conflicts states) =
    member (codes "conflicts") (array (states_items states))
    (member (codes "epoch") (whole epoch)
    (member (codes "n") (whole n) no_members))
body_members epoch n (Docs states place) =
    member (codes "docs") (array (states_items states))
    (member (codes "epoch") (whole epoch)
    (member (codes "n") (whole n)
    (with_place place no_members)))

-- the object of a request
abbrev pub request_data : Shape → Request → Data
request_data s request =
    object (ask_members (hash_text s) request.epoch request.n request.ask)

-- the object of a reply
abbrev pub reply_data : Reply → Data
reply_data reply = object (body_members reply.epoch reply.n reply.body)

-- the text of a request, without its line feed
abbrev pub request_text : Shape → Request → List ℕ
request_text s request = compact_text (request_data s request)

-- the text of a reply, without its line feed
abbrev pub reply_text : Reply → List ℕ
reply_text reply = compact_text (reply_data reply)
