-- The states that the rows of a bulk make.
use Rattle.std.specs.Prelude.{⊤, ℕ, ◌+◌, List, [], ◌∷◌, not, Some, is_some, Result, Ok}
use Rattle.serde_json.specs.Data.{Data}
use Rattle.rx_value.specs.Due.{◌>>◌, demand, lifted}
use Rattle.rx_value.specs.Named.{named, put_in_order}
use Rattle.rx_value.specs.declared.state.State.{State}
use Rattle.rx_collection.specs.Held.{Held}
use Rattle.rx_reply.specs.declared.refusal.Refusal.TheVariants.{Document, Twice, Vetoed}
use Rattle.rx_update.specs.declared.attached.Attached.{Attached}
use Rattle.rx_update.specs.declared.attached.When.TheVariants.{Insert}
use Rattle.rx_writes.specs.Documents.{state_of, is_free}
use Rattle.rx_writes.specs.States.{written_state}
use Rattle.rx_writes.specs.declared.fault.Fault.{Fault}
use Rattle.rx_writes.specs.declared.fault.Fault.TheVariants.{Refused}

-- a refusal of a document as that of its row
abbrev pub at_row : ℕ → Fault → Fault
at_row row (Refused (Document fault _)) = Refused (Document fault (Some row))
at_row row (Refused (Vetoed hook _)) = Refused (Vetoed hook (Some row))
at_row row fault = fault

abbrev pub in_row : {A : Type 0} → ℕ → Result A Fault → Result A Fault
in_row row r = lifted (at_row row) r

-- the keys of the rows so far
abbrev pub Keys : Type 0
Keys = List (List ℕ × ⊤)

-- a row's state: its key is that of no row before it
abbrev pub row_state : Held → List Attached → ℕ → Keys → Data → Result State Fault
row_state c hooks row seen d =
    in_row row (state_of c.schema.primary d) >> λ state.
    demand (not (is_some (named seen state.key))) (Refused (Twice row)) >> λ _.
    in_row row (written_state c Insert hooks state) >> λ hooked.
    in_row row (is_free c hooked.key) >> λ _.
    Ok hooked

-- the states of rows from a number on
abbrev pub rows_states : Held → List Attached → ℕ → Keys → List Data → Result (List State) Fault
rows_states c hooks row seen [] = Ok []
rows_states c hooks row seen (d ∷ ds) =
    row_state c hooks row seen d >> λ state.
    rows_states c hooks (row + 1) (put_in_order seen state.key tt) ds >> λ states.
    Ok (state ∷ states)
