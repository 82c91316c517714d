-- The lines that list the changes of a collection, and tell its digest.
use Rattle.std.specs.Prelude.{ℕ, List, [], ◌∷◌, length, map, Option, Some, option_map, Result, Ok}
use Rattle.rx_value.specs.Due.{◌>>◌}
use Rattle.rx_document.specs.declared.place.Place.{Place}
use Rattle.rx_document.specs.declared.stored.Stored.{Stored}
use Rattle.rx_collection.specs.Since.{place_of, since}
use Rattle.rx_digest.specs.Digest.{digest_of}
use Rattle.rx_reply.specs.Answer.{Answer, changes, digest}
use Rattle.rx_script.specs.declared.since.Since.{Since}
use Rattle.rx_session.specs.Session.{Session}
use Rattle.rx_engine.specs.Outcome.{Outcome, answer_alone, collection_at}
use Rattle.rx_writes.specs.declared.fault.Fault.{Fault}

-- the place that a line names
abbrev pub place_named : Since → Place
place_named s = record { lwt = s.lwt; id = s.id }

-- the place of the last document, or else the one asked from
abbrev pub place_after : Option Place → List Stored → Option Place
place_after asked [] = asked
place_after asked (d ∷ ds) = place_after (Some (place_of d)) ds

-- the states of these documents, and the place that they go up to
abbrev pub changes_answer : Option Place → List Stored → Answer
changes_answer asked page = changes (map (λ d. d.state) page) (place_after asked page)

-- the first documents above a place, in the order of writing
abbrev pub changes_line : List ℕ → Option Since → ℕ → Session → Result Outcome Fault
changes_line coll asked batch s =
    collection_at coll s >> λ c.
    Ok (answer_alone (changes_answer (option_map place_named asked)
    (since c.documents (option_map place_named asked) batch)))

-- the count of the states, and their digest
abbrev pub digest_line : List ℕ → Session → Result Outcome Fault
digest_line coll s =
    collection_at coll s >> λ c.
    Ok (answer_alone (digest (length c.documents) (digest_of c.documents)))
