-- A write of one state.
use Rattle.std.proofs.Common.{◌≡◌, ◌⊎◌, ℕ, List, [], ◌∷◌, Option, Some, None, option_map, Result, Ok, Err, refl, get_or, sym, ap, ◌∙◌, subst}
use Rattle.std.specs.Result.{IsErrAnd}
use Rattle.rx_value.specs.Due.{◌>>◌, DueBy}
use Rattle.rx_value.specs.Named.{named}
use Rattle.rx_value.specs.declared.state.State.{State}
use Rattle.rx_collection.specs.Commit.{next_height}
use Rattle.rx_collection.specs.Held.{Held}
use Rattle.rx_collection.specs.Time.{stamp}
use Rattle.rx_record.specs.Content.{Content, rows}
use Rattle.rx_record.specs.Shown.{content}
use Rattle.rx_record.specs.declared.record.Record.{Record}
use Rattle.rx_record.specs.declared.record.Record.TheVariants.{Rows}
use Rattle.rx_record.specs.declared.record.RowOut.{RowOut}
use Rattle.rx_reply.specs.Answer.{Answer}
use Rattle.rx_world.specs.Commit.{commit_to}
use Rattle.rx_session.specs.Session.{Session}
use Rattle.rx_store.proofs.Stops.{handed_on}
use Rattle.rx_engine.specs.Outcome.{Outcome, collection_at}
use Rattle.rx_engine.specs.Writes.{commit_one}
use Rattle.rx_writes.specs.declared.fault.Fault.{Fault}
use Rattle.rx_writes.specs.declared.fault.Fault.TheVariants.{Memory}

-- the rows of a collection that a record writes
abbrev pub rows_in : Content → List RowOut
rows_in (rows name lwt written) = written
rows_in _ = []

rows_made : (o : Option ℕ) (coll : List ℕ) (row : RowOut) (made : Content)
    → option_map (λ lwt. rows coll lwt (row ∷ [])) o ≡ Some made → rows_in made ≡ row ∷ []
rows_made None coll row made is = absurd (cc)
rows_made (Some lwt) coll row made is =
    let same : rows coll lwt (row ∷ []) ≡ made = cc in ap rows_in (sym same)

-- that of one state has one row, of the next height of its key
pub one_row : (coll : List ℕ) (s : State) (now : ℕ) (c : Held) (made : Content)
    (states : List State)
    → states ≡ s ∷ [] → commit_to coll states now c ≡ Some made
    → rows_in made ≡ record { height = next_height (named c.documents s.key); state = s } ∷ []
one_row coll s now c made states one is =
    rows_made (stamp c.documents now) coll
    (record { height = next_height (named c.documents s.key); state = s }) made
    (ap (λ ss. commit_to coll ss now c) (sym one) ∙ is)

-- which comes first
pub first_height : (items : List RowOut) (row first : RowOut) → items ≡ row ∷ []
    → first ≡ get_or items 0 first → first.height ≡ row.height
first_height items row first one at =
    ap (λ (r : RowOut). r.height) (at ∙ ap (λ rows. get_or rows 0 first) one)

-- no other record has one
pub no_other : (r : Record) (row : RowOut) → rows_in (content r) ≡ row ∷ []
    → ((name : _) (lwt : _) (written : _) → r ≡ Rows name lwt written → ⊥) → ⊥
no_other (Rows name lwt written) row is other = other name lwt written refl
no_other _ row is other = cc

-- ---- a line that writes one state

module _ (coll : List ℕ) (reads : Held → Result State Fault) (answer : List ℕ → Answer)
    (s : Session) (c : Held) (state : State) (at : collection_at coll s ≡ Ok c)
    (called : c.name ≡ coll) (read : reads c ≡ Ok state) where
  abbrev one_state : Result Outcome Fault
  one_state = collection_at coll s >> λ c. reads c >> λ state. commit_one coll answer c state s

  -- comes to what the write comes to, once its collection and its state are there
  pub state_written : one_state ≡ commit_one c.name answer c state s
  state_written =
      ap (λ found. found >> λ c. reads c >> λ state. commit_one coll answer c state s) at
      ∙ ap (λ found. found >> λ state. commit_one coll answer c state s) read
      ∙ ap (λ name. commit_one name answer c state s) (sym called)

  -- or to no more, where its write fails
  pub state_refused : (e : Fault) → (e ≡ Memory) ⊎ (commit_one c.name answer c state s ≡ Err e)
      → (e ≡ Memory) ⊎ (one_state ≡ Err e)
  state_refused e = subst (λ due. (e ≡ Memory) ⊎ (due ≡ Err e)) (sym state_written)

-- a fault that is due where it is handed on
pub refused_on : {X Y E : Type 0} (memory : E) (view : X → Y) (r : Result X E) (due : Result Y E)
    (e : E) → IsErrAnd r (λ x. x ≡ e) → (e ≡ memory) ⊎ (due ≡ Err e) → DueBy memory view r due
refused_on {X} {Y} {E} memory view r due e is so =
    subst (λ (r : Result X E). DueBy memory view r due) (sym (handed_on r e is)) so
