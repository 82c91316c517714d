-- The states that lines of writing make.
use Rattle.std.specs.Prelude.{ℕ, List, true, Option, Some, None, Result, Ok}
use Rattle.serde_json.specs.Data.{Data}
use Rattle.rx_value.specs.Due.{◌>>◌, demand, lifted}
use Rattle.rx_value.specs.Reading.{fields_of}
use Rattle.rx_value.specs.declared.state.State.{State}
use Rattle.rx_collection.specs.Held.{Held}
use Rattle.rx_document.specs.declared.stored.Stored.{Stored}
use Rattle.rx_reply.specs.declared.refusal.DocumentFault.TheVariants.{Key}
use Rattle.rx_reply.specs.declared.refusal.Refusal.TheVariants.{Document}
use Rattle.rx_update.specs.Attached.{hooked_all}
use Rattle.rx_update.specs.Reading.{update_of}
use Rattle.rx_update.specs.Updated.{updated}
use Rattle.rx_update.specs.declared.attached.Attached.{Attached}
use Rattle.rx_update.specs.declared.attached.When.{When}
use Rattle.rx_update.specs.declared.attached.When.TheVariants.{Insert, Save, Remove}
use Rattle.rx_writes.specs.Documents.{state_of, valid_by, with_fields, keeps_key, document_at, has_revision, is_free, live_document, live_state}
use Rattle.rx_writes.specs.Faults.{of_update, of_value, of_veto}
use Rattle.rx_writes.specs.declared.fault.Fault.{Fault}
use Rattle.rx_writes.specs.declared.fault.Fault.TheVariants.{Refused}

-- the state that is written: after the hooks that stand before such a write, and valid then
abbrev pub written_state : Held → When → List Attached → State → Result State Fault
written_state c when hooks state =
    lifted of_veto (hooked_all c.name when hooks state) >> λ hooked.
    valid_by c.schema hooked.fields >> λ _.
    Ok hooked

-- an upsert inserts, or saves a document that is live
abbrev pub when_found : Option Stored → When
when_found None = Insert
when_found (Some d) = Save

abbrev pub upsert_state : Held → List Attached → Data → Result State Fault
upsert_state c hooks d =
    state_of c.schema.primary d >> λ state.
    written_state c (when_found (live_document c state.key)) hooks state

abbrev pub insert_state : Held → List Attached → Data → Result State Fault
insert_state c hooks d =
    state_of c.schema.primary d >> λ state.
    written_state c Insert hooks state >> λ hooked.
    is_free c hooked.key >> λ _.
    Ok hooked

abbrev pub patch_state : Held → List Attached → List ℕ → Data → Option (List ℕ) → Result State Fault
patch_state c hooks key set rev =
    document_at c key >> λ d.
    has_revision rev d >> λ _.
    lifted of_value (fields_of set) >> λ more.
    demand (keeps_key c.schema.primary key more) (Refused (Document Key None)) >> λ _.
    written_state c Save hooks (live_state key (with_fields d.state.fields more))

abbrev pub update_state : Held → List Attached → List ℕ → Data → Option (List ℕ)
    → Result State Fault
update_state c hooks key d rev =
    document_at c key >> λ held.
    has_revision rev held >> λ _.
    lifted of_update (update_of c.schema.primary d) >> λ operations.
    lifted of_update (updated operations held.state.fields) >> λ fields.
    written_state c Save hooks (live_state key fields)

-- a tombstone keeps the fields that its hooks leave
abbrev pub remove_state : Held → List Attached → List ℕ → Option (List ℕ) → Result State Fault
remove_state c hooks key rev =
    document_at c key >> λ d.
    has_revision rev d >> λ _.
    written_state c Remove hooks (live_state key d.state.fields) >> λ hooked.
    Ok (record hooked { deleted = true })
