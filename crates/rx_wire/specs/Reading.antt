-- The message that an object is, or its first fault.
use Rattle.std.specs.Prelude.{⊤, ℕ, List, [], ◌∷◌, length, codes, nat_le, is_some, if◌then◌else◌, Option, Some, None, Result, Ok, Err}
use Rattle.std.specs.Str.{bytes_eq, is_utf8}
use Rattle.serde_json.specs.Data.{Data}
use Rattle.serde_json.specs.Find.{get, as_object}
use Rattle.serde_json.specs.Read.{read}
use Rattle.rx_value.specs.Due.{◌>>◌, or_fault, demand}
use Rattle.rx_value.specs.Form.{text_at}
use Rattle.rx_schema.specs.Writing.{hash_text}
use Rattle.rx_schema.specs.declared.shape.Shape.{Shape}
use Rattle.rx_wire.specs.Form.{has_needed, has_form, number_at, count_at, place_at}
use Rattle.rx_wire.specs.Limits.{longest_line, most_states}
use Rattle.rx_wire.specs.States.{states_at, rows_at, rows_of, states_of}
use Rattle.rx_wire.specs.declared.message.AskKind.TheVariants.{Push, Pull}
use Rattle.rx_wire.specs.declared.message.Body.TheVariants.{Conflicts, Docs}
use Rattle.rx_wire.specs.declared.message.Reply.{Reply}
use Rattle.rx_wire.specs.declared.message.Request.{Request}
use Rattle.rx_wire.specs.declared.fault.WireFault.{WireFault}
use Rattle.rx_wire.specs.declared.fault.WireFault.TheVariants as fault

-- ---- the object

-- an object
abbrev pub an_object : Option Data → Result Data WireFault
an_object None = Err fault.NotJson
an_object (Some d) = if is_some (as_object d) then Ok d else Err fault.NotObject

-- the object that a line is
abbrev pub object_of : List ℕ → Result Data WireFault
object_of line =
    demand (nat_le (length line) longest_line) fault.TooLong >> λ _.
    an_object (if is_utf8 line then read line else None)

-- ---- requests

-- the hash is a text, and that of the schema
abbrev pub has_hash : Shape → Data → Result ⊤ WireFault
has_hash s d =
    or_fault (fault.WrongType (codes "schema")) (text_at (codes "schema") d) >> λ hash.
    demand (bytes_eq hash (hash_text s)) fault.Schema

-- a pull
abbrev pub pull_of : Shape → Data → Result Request WireFault
pull_of s d =
    has_form
    (codes "ask" ∷ codes "batch" ∷ codes "epoch" ∷ codes "n" ∷ codes "schema" ∷ [])
    (codes "place" ∷ []) d >> λ _.
    number_at (codes "batch") most_states d >> λ batch.
    count_at (codes "epoch") d >> λ epoch.
    count_at (codes "n") d >> λ n.
    place_at d >> λ place.
    has_hash s d >> λ _.
    Ok (record { epoch = epoch; n = n; ask = Pull place batch })

-- a push
abbrev pub push_of : Shape → Data → Result Request WireFault
push_of s d =
    has_form
    (codes "ask" ∷ codes "epoch" ∷ codes "n" ∷ codes "rows" ∷ codes "schema" ∷ [])
    [] d >> λ _.
    count_at (codes "epoch") d >> λ epoch.
    count_at (codes "n") d >> λ n.
    or_fault (fault.WrongType (codes "rows")) (rows_at d) >> λ items.
    has_hash s d >> λ _.
    rows_of s items >> λ rows.
    Ok (record { epoch = epoch; n = n; ask = Push rows })

-- what is asked
abbrev pub asked_by : Shape → Data → Option (List ℕ) → Result Request WireFault
asked_by s d None = Err (fault.WrongType (codes "ask"))
asked_by s d (Some word) =
    if bytes_eq word (codes "pull") then pull_of s d else
    (if bytes_eq word (codes "push") then push_of s d else Err (fault.WrongType (codes "ask")))

-- the request that an object is
abbrev pub request_in : Shape → Data → Result Request WireFault
request_in s d =
    has_needed (codes "ask" ∷ []) d >> λ _. asked_by s d (text_at (codes "ask") d)

-- ---- replies

-- the conflicts of a push
abbrev pub conflicts_of : Shape → Data → Result Reply WireFault
conflicts_of s d =
    has_form (codes "conflicts" ∷ codes "epoch" ∷ codes "n" ∷ []) [] d >> λ _.
    or_fault (fault.WrongType (codes "conflicts")) (states_at (codes "conflicts") d) >> λ items.
    count_at (codes "epoch") d >> λ epoch.
    count_at (codes "n") d >> λ n.
    states_of s items >> λ states.
    Ok (record { epoch = epoch; n = n; body = Conflicts states })

-- the documents of a pull
abbrev pub docs_of : Shape → Data → Result Reply WireFault
docs_of s d =
    has_form (codes "docs" ∷ codes "epoch" ∷ codes "n" ∷ []) (codes "place" ∷ []) d >> λ _.
    or_fault (fault.WrongType (codes "docs")) (states_at (codes "docs") d) >> λ items.
    count_at (codes "epoch") d >> λ epoch.
    count_at (codes "n") d >> λ n.
    place_at d >> λ place.
    states_of s items >> λ states.
    Ok (record { epoch = epoch; n = n; body = Docs states place })

-- the reply that an object is; `conflicts` tells of which kind
abbrev pub reply_in : Shape → Data → Result Reply WireFault
reply_in s d =
    if is_some (get (codes "conflicts") d) then conflicts_of s d else docs_of s d
