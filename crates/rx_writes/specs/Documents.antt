-- Documents as a line gives them, and as they are held.
use Rattle.std.specs.Prelude.{⊤, ◌||◌, ℕ, Bool, false, not, List, [], ◌∷◌, if◌then◌else◌, Option, Some, None, Result, Ok, Err}
use Rattle.std.specs.List.{list_all}
use Rattle.std.specs.Str.{bytes_eq}
use Rattle.serde_json.specs.Data.{Data}
use Rattle.rx_value.specs.Due.{◌>>◌, lifted, or_fault, unless}
use Rattle.rx_value.specs.Fields.{Pairs}
use Rattle.rx_value.specs.Named.{named, put_in_order}
use Rattle.rx_value.specs.Reading.{fields_of}
use Rattle.rx_value.specs.Value.{is_text, text_of}
use Rattle.rx_value.specs.declared.state.State.{State}
use Rattle.rx_schema.specs.Validity.{first_fault}
use Rattle.rx_schema.specs.declared.shape.Shape.{Shape}
use Rattle.rx_document.specs.Revision.{revision_text}
use Rattle.rx_document.specs.declared.stored.Stored.{Stored}
use Rattle.rx_collection.specs.Commit.{next_height}
use Rattle.rx_collection.specs.Held.{Held}
use Rattle.rx_reply.specs.declared.refusal.DocumentFault.TheVariants.{Key, Conflict}
use Rattle.rx_reply.specs.declared.refusal.Refusal.TheVariants.{NoDocument}
use Rattle.rx_writes.specs.Faults.{of_value, of_document, of_invalidity}
use Rattle.rx_writes.specs.declared.fault.Fault.{Fault}
use Rattle.rx_writes.specs.declared.fault.Fault.TheVariants.{Refused}

-- ---- as a line gives them

-- the text of the primary key
abbrev pub key_in : List ℕ → Pairs → Result (List ℕ) Fault
key_in primary ps = or_fault (of_document Key) (text_of (named ps primary))

-- the state of a document that isn't deleted
abbrev pub live_state : List ℕ → Pairs → State
live_state key fields = record { key = key; fields = fields; deleted = false }

-- the state that a document says: its fields, and its key among them
abbrev pub state_of : List ℕ → Data → Result State Fault
state_of primary d =
    lifted of_value (fields_of d) >> λ fields.
    key_in primary fields >> λ key.
    Ok (live_state key fields)

-- the fields are valid
abbrev pub valid_by : Shape → Pairs → Result ⊤ Fault
valid_by s ps = unless (λ fault. of_document (of_invalidity fault)) (first_fault s ps) (Ok tt)

-- fields with others set
abbrev pub with_fields : Pairs → Pairs → Pairs
with_fields ps [] = ps
with_fields ps (p ∷ more) = with_fields (put_in_order ps p.0 p.1) more

-- none of the pairs gives the primary key another value
abbrev pub keeps_key : List ℕ → List ℕ → Pairs → Bool
keeps_key primary key ps =
    list_all (λ p. not (bytes_eq p.0 primary) || is_text key (Some p.1)) ps

-- ---- as they are held

-- a document that isn't deleted
abbrev pub if_live : Option Stored → Option Stored
if_live None = None
if_live (Some d) = if d.state.deleted then None else Some d

abbrev pub live_document : Held → List ℕ → Option Stored
live_document c key = if_live (named c.documents key)

-- the document of a key, which is to be live
abbrev pub document_at : Held → List ℕ → Result Stored Fault
document_at c key = or_fault (Refused NoDocument) (live_document c key)

-- its revision, where one is given, is that one
abbrev pub has_revision : Option (List ℕ) → Stored → Result ⊤ Fault
has_revision None d = Ok tt
has_revision (Some rev) d =
    if bytes_eq rev (revision_text d.rev) then Ok tt
    else Err (of_document (Conflict (revision_text d.rev)))

-- the key isn't that of a live document
abbrev pub is_free : Held → List ℕ → Result ⊤ Fault
is_free c key =
    unless (λ d. of_document (Conflict (revision_text d.rev))) (live_document c key) (Ok tt)

-- the revision that the next write of a key gets
abbrev pub next_revision : Held → List ℕ → List ℕ
next_revision c key =
    revision_text (record { height = next_height (named c.documents key); token = c.name })
