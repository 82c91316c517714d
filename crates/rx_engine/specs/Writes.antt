-- The lines that make a collection and write documents.
use Rattle.std.specs.Prelude.{ℕ, List, [], ◌∷◌, map, length, true, false, nat_lt, Option, Some, None, is_some, Result, Ok}
use Rattle.std.specs.Str.{bytes_eq}
use Rattle.serde_json.specs.Data.{Data}
use Rattle.rx_value.specs.Due.{◌>>◌, demand, lifted}
use Rattle.rx_value.specs.Named.{named}
use Rattle.rx_value.specs.declared.state.State.{State}
use Rattle.rx_schema.specs.Reading.{schema_of}
use Rattle.rx_schema.specs.Writing.{canonical_text}
use Rattle.rx_schema.specs.declared.shape.Shape.{Shape}
use Rattle.rx_collection.specs.Held.{Held}
use Rattle.rx_collection.specs.Time.{stamp}
use Rattle.rx_record.specs.Content.{collection as collection_record}
use Rattle.rx_reply.specs.Answer.{Answer, collection, insert, upsert, patch, update, remove, bulk}
use Rattle.rx_reply.specs.declared.refusal.Refusal.TheVariants.{SchemaDiffers, TooMany, Clock}
use Rattle.rx_world.specs.World.{World, max_collections}
use Rattle.rx_writes.specs.Documents.{next_revision}
use Rattle.rx_writes.specs.Faults.{of_schema}
use Rattle.rx_writes.specs.Rows.{rows_states}
use Rattle.rx_writes.specs.States.{insert_state, patch_state, remove_state, update_state, upsert_state}
use Rattle.rx_writes.specs.declared.fault.Fault.{Fault}
use Rattle.rx_writes.specs.declared.fault.Fault.TheVariants.{Refused}
use Rattle.rx_session.specs.Doing.{write}
use Rattle.rx_session.specs.Session.{Session}
use Rattle.rx_engine.specs.Outcome.{Outcome, answer_alone, collection_at, commit}

-- ---- a collection

-- a collection of that schema: it is there with the same one, or there is room for it
abbrev pub collection_with : List ℕ → Shape → Option Held → World → Result Outcome Fault
collection_with name shape (Some held) w =
    demand (bytes_eq (canonical_text held.schema) (canonical_text shape)) (Refused SchemaDiffers)
    >> λ _.
    Ok (answer_alone (collection false))
collection_with name shape None w =
    demand (nat_lt (length w.collections) max_collections) (Refused TooMany) >> λ _.
    Ok (record {
      doing = write (collection_record name (canonical_text shape));
      answer = collection true;
    })

abbrev pub collection_line : List ℕ → Data → Session → Result Outcome Fault
collection_line name schema s =
    lifted of_schema (schema_of schema) >> λ shape.
    collection_with name shape (named s.world.collections name) s.world

-- ---- one document

-- a state is written, and the answer has its revision
abbrev pub commit_one : List ℕ → (List ℕ → Answer) → Held → State → Session → Result Outcome Fault
commit_one coll answer c state s =
    commit coll (state ∷ []) (answer (next_revision c state.key)) c s

abbrev pub insert_line : List ℕ → Data → Session → Result Outcome Fault
insert_line coll d s =
    collection_at coll s >> λ c.
    insert_state c s.hooks.attached d >> λ state. commit_one coll insert c state s

abbrev pub upsert_line : List ℕ → Data → Session → Result Outcome Fault
upsert_line coll d s =
    collection_at coll s >> λ c.
    upsert_state c s.hooks.attached d >> λ state. commit_one coll upsert c state s

abbrev pub patch_line : List ℕ → List ℕ → Data → Option (List ℕ) → Session → Result Outcome Fault
patch_line coll key set rev s =
    collection_at coll s >> λ c. patch_state c s.hooks.attached key set rev >> λ state.
    commit_one coll patch c state s

abbrev pub update_line : List ℕ → List ℕ → Data → Option (List ℕ) → Session → Result Outcome Fault
update_line coll key d rev s =
    collection_at coll s >> λ c. update_state c s.hooks.attached key d rev >> λ state.
    commit_one coll update c state s

abbrev pub remove_line : List ℕ → List ℕ → Option (List ℕ) → Session → Result Outcome Fault
remove_line coll key rev s =
    collection_at coll s >> λ c.
    remove_state c s.hooks.attached key rev >> λ state. commit_one coll remove c state s

-- ---- many documents

-- states are written at once; where there are none, nothing is, but a write time is to be left
abbrev pub commit_all : List ℕ → Held → List State → Session → Result Outcome Fault
commit_all coll c [] s =
    demand (is_some (stamp c.documents s.moment)) (Refused Clock) >> λ _.
    Ok (answer_alone (bulk []))
commit_all coll c (state ∷ states) s =
    commit coll (state ∷ states) (bulk (map (λ s. next_revision c s.key) (state ∷ states))) c s

abbrev pub bulk_line : List ℕ → List Data → Session → Result Outcome Fault
bulk_line coll docs s =
    collection_at coll s >> λ c. rows_states c s.hooks.attached 0 [] docs >> λ states.
    commit_all coll c states s
