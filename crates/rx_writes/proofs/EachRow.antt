-- Rows of a bulk, one after another.
use Rattle.std.specs.Prelude.{⊤}
use Rattle.std.proofs.Common.{length, ◌≤◌, drop, append-nil, append_assoc, ◌≡◌, ℕ, ◌+◌, List, [], ◌∷◌, ◌++◌, map, Bool, true, false, not, cond, Option, Some, None, is_some, Result, Ok, Err, refl, sym, ap, ◌∙◌, subst}
use Rattle.std.specs.List.{AllByRecursion, IsDistinct}
use Rattle.std.specs.Str.{bytes_eq}
use Rattle.std.proofs.lemmas.Cmp.{nat_list_eq_equiv}
use Rattle.std.proofs.lemmas.List.{drop_all}
use Rattle.serde_json.specs.Data.{Data}
use Rattle.serde_json.specs.View.{view}
use Rattle.serde_json.specs.declared.value.Value.{Value as Json}
use Rattle.rx_value.specs.Due.{◌>>◌, demand, lifted, or_fault}
use Rattle.rx_value.specs.Named.{named, put_in_order}
use Rattle.rx_value.specs.Reading.{fields_of}
use Rattle.rx_value.specs.declared.state.State.{State}
use Rattle.rx_value.specs.declared.value.Value.{Value}
use Rattle.rx_value.specs.declared.value.Value.TheVariants.{Flag, Int, Text}
use Rattle.rx_value.proofs.Named.{named-put_in_order}
use Rattle.rx_collection.specs.Held.{Held}
use Rattle.rx_reply.specs.declared.refusal.Refusal.TheVariants.{Twice}
use Rattle.rx_reply.specs.declared.refusal.DocumentFault.TheVariants.{Key}
use Rattle.rx_world.specs.Step.{IsValidState}
use Rattle.rx_update.specs.declared.attached.Attached.{Attached}
use Rattle.rx_update.specs.declared.attached.When.TheVariants.{Insert}
use Rattle.rx_value.specs.Value.{text_of}
use Rattle.rx_value.proofs.Outcomes.{ok_then}
use Rattle.rx_writes.specs.Documents.{key_in, live_state, state_of, is_free}
use Rattle.rx_writes.specs.Faults.{of_document, of_value}
use Rattle.rx_writes.specs.States.{written_state}
use Rattle.rx_writes.specs.Rows.{Keys, in_row, at_row, row_state, rows_states}
use Rattle.rx_writes.specs.declared.fault.Fault.{Fault}
use Rattle.rx_writes.specs.declared.fault.Fault.TheVariants.{Refused}
use Rattle.rx_writes.proofs.AfterHooks.{hooked_valid, lifted_ok}

-- the states so far, before those that are left
abbrev pub after : List State → Result (List State) Fault → Result (List State) Fault
after done rest = rest >> λ more. Ok (done ++ more)

-- ---- what holds of the state of a row

carried : (o : Option Value) (k : List ℕ) → or_fault (of_document Key) (text_of o) ≡ Ok k
    → o ≡ Some (Text k)
carried None k h = cc
carried (Some (Flag b)) k h = cc
carried (Some (Int z)) k h = cc
carried (Some (Text t)) k h = cc

state_carries : (primary : List ℕ) (d : Data) (s : State) → state_of primary d ≡ Ok s
    → named s.fields primary ≡ Some (Text s.key)
state_carries primary d s h =
    let fields = ok_then (lifted of_value (fields_of d)) (λ fields. key_in primary fields >> λ key.
    Ok (record { key = key; fields = fields; deleted = false })) s h in
    let key = ok_then (key_in primary fields.0) (λ key.
    Ok (record { key = key; fields = fields.0; deleted = false })) s fields.2 in
    let is : record { key = key.0; fields = fields.0; deleted = false } ≡ s = cc (key.2) in
    subst (λ (s : State). named s.fields primary ≡ Some (Text s.key)) is
    (carried (named fields.0 primary) key.0 key.1)

none_seen : (o : Option ⊤) (r : Fault) (u : ⊤) → demand (not (is_some o)) r ≡ Ok u → o ≡ None
none_seen None r u h = refl
none_seen (Some x) r u h = cc

module _ (c : Held) (hooks : List Attached) where
  -- what is left to do with the state of a row
  abbrev checked : ℕ → Keys → State → Result State Fault
  checked row seen state =
      demand (not (is_some (named seen state.key))) (Refused (Twice row)) >> λ _.
      in_row row (written_state c Insert hooks state) >> λ hooked.
      in_row row (is_free c hooked.key) >> λ _.
      Ok hooked

  -- it is valid, and its key was not seen
  pub row_given : (row : ℕ) (seen : Keys) (d : Data) (s : State)
      → row_state c hooks row seen d ≡ Ok s
      → IsValidState c.schema s × (named seen s.key ≡ None)
  row_given row seen d s h =
      let read = ok_then (in_row row (state_of c.schema.primary d)) (checked row seen) s h in
      let fresh = ok_then (demand (not (is_some (named seen read.0.key))) (Refused (Twice row)))
      (λ _. in_row row (written_state c Insert hooks read.0) >> λ hooked.
      in_row row (is_free c hooked.key) >> λ _. Ok hooked) s read.2 in
      let written = ok_then (in_row row (written_state c Insert hooks read.0))
      (λ hooked. in_row row (is_free c hooked.key) >> λ _. Ok hooked) s fresh.2 in
      let free = ok_then (in_row row (is_free c written.0.key)) (λ _. Ok written.0) s written.2 in
      let is : written.0 ≡ s = cc (free.2) in
      let so = hooked_valid c Insert hooks read.0 written.0
      (state_carries c.schema.primary d read.0
      (lifted_ok (at_row row) (state_of c.schema.primary d) read.0 read.1))
      (lifted_ok (at_row row) (written_state c Insert hooks read.0) written.0 written.1) in
      subst (λ (s : State). IsValidState c.schema s × (named seen s.key ≡ None)) is (
        so.valid,
        ap (named seen) so.key
            ∙ none_seen (named seen read.0.key) (Refused (Twice row)) fresh.0 fresh.1,
      )

  -- a state among those behind a row
  abbrev Fits : Keys → State → Type 0
  Fits seen s = IsValidState c.schema s × (named seen s.key ≡ None)

  -- a key that isn't seen with another one is another one, and isn't seen without it
  unseen : (b : Bool) (o : Option ⊤) → cond b (Some tt) o ≡ None → (b ≡ false) × (o ≡ None)
  unseen true o h = absurd (cc)
  unseen false o h = (refl, h)

  apart : (seen : Keys) (k q : List ℕ) → named (put_in_order seen k tt) q ≡ None
      → (bytes_eq k q ≡ false) × (named seen q ≡ None)
  apart seen k q h =
      let both = unseen (bytes_eq q k) (named seen q) (sym (named-put_in_order seen k q tt) ∙ h) in
      (nat_list_eq_equiv.symm k q ∙ both.0, both.1)

  -- the keys that were not seen with another one
  all_apart : (seen : Keys) (k : List ℕ) (ss : List State)
      → AllByRecursion (Fits (put_in_order seen k tt)) ss
      → AllByRecursion (Fits seen) ss
      × AllByRecursion (λ q. bytes_eq k q ≡ false) (map (λ s. s.key) ss)
  all_apart seen k [] all = (tt, tt)
  all_apart seen k (s ∷ ss) all =
      let here = apart seen k s.key all.0.1 in
      let rest = all_apart seen k ss all.1 in
      (((all.0.0, here.1), rest.0), (here.0, rest.1))

  -- the states of rows are valid, and their keys are distinct and were not seen
  rows_fit : (row : ℕ) (seen : Keys) (ds : List Data) (ss : List State)
      → rows_states c hooks row seen ds ≡ Ok ss
      → AllByRecursion (Fits seen) ss × IsDistinct bytes_eq (map (λ s. s.key) ss)
  unfolding IsDistinct
  rows_fit row seen [] ss h =
      let is : [] ≡ ss = cc in
      subst (λ (ss : List State).
      AllByRecursion (Fits seen) ss × IsDistinct bytes_eq (map (λ s. s.key) ss)) is (tt, tt)
  rows_fit row seen (d ∷ ds) ss h =
      let first = ok_then (row_state c hooks row seen d) (λ state.
      rows_states c hooks (row + 1) (put_in_order seen state.key tt) ds >> λ states.
      Ok (state ∷ states)) ss h in
      let rest = ok_then (rows_states c hooks (row + 1) (put_in_order seen first.0.key tt) ds)
      (λ states. Ok (first.0 ∷ states)) ss first.2 in
      let is : first.0 ∷ rest.0 ≡ ss = cc (rest.2) in
      let fit = rows_fit (row + 1) (put_in_order seen first.0.key tt) ds rest.0 rest.1 in
      let all = all_apart seen first.0.key rest.0 fit.0 in
      subst (λ (ss : List State).
      AllByRecursion (Fits seen) ss × IsDistinct bytes_eq (map (λ s. s.key) ss)) is
      ((row_given row seen d first.0 first.1, all.0), (all.1, fit.1))

  all_valid : (seen : Keys) (ss : List State) → AllByRecursion (Fits seen) ss
      → AllByRecursion (IsValidState c.schema) ss
  all_valid seen [] all = tt
  all_valid seen (s ∷ ss) all = (all.0.0, all_valid seen ss all.1)

  pub rows_given : (row : ℕ) (seen : Keys) (ds : List Data) (ss : List State)
      → rows_states c hooks row seen ds ≡ Ok ss
      → AllByRecursion (IsValidState c.schema) ss × IsDistinct bytes_eq (map (λ s. s.key) ss)
  rows_given row seen ds ss h =
      let fit = rows_fit row seen ds ss h in (all_valid seen ss fit.0, fit.1)

  -- one state more was read, before those that are left
  after_one : (done : List State) (s : State) (rest : Result (List State) Fault)
      → after done (rest >> λ more. Ok (s ∷ more)) ≡ after (done ++ s ∷ []) rest
  after_one done s (Ok more) = ap Ok (sym (append_assoc done (s ∷ []) more))
  after_one done s (Err e) = refl

  pub row_read : (docs : List Json) (row : ℕ) (seen new : Keys) (states : List State) (d : Json)
      (s : State)
      → rows_states c hooks 0 [] (map view docs)
      ≡ after states (rows_states c hooks row seen (map view (drop row docs)))
      → drop row docs ≡ d ∷ drop (row + 1) docs → row_state c hooks row seen (view d) ≡ Ok s
      → new ≡ put_in_order seen s.key tt
      → rows_states c hooks 0 [] (map view docs)
      ≡ after (states ++ s ∷ [])
      (rows_states c hooks (row + 1) new (map view (drop (row + 1) docs)))
  row_read docs row seen new states d s so_far here read is =
      let left = map view (drop (row + 1) docs) in
      so_far
      ∙ ap (λ ds. after states (rows_states c hooks row seen (map view ds))) here
      ∙ ap (λ r. after states (r >> λ state.
      rows_states c hooks (row + 1) (put_in_order seen state.key tt) left >> λ more.
      Ok (state ∷ more))) read
      ∙ after_one states s (rows_states c hooks (row + 1) (put_in_order seen s.key tt) left)
      ∙ ap (λ keys. after (states ++ s ∷ []) (rows_states c hooks (row + 1) keys left)) (sym is)

  -- no row is left
  pub all_read : (docs : List Json) (row : ℕ) (seen : Keys) (states : List State)
      → length docs ≤ row
      → rows_states c hooks 0 [] (map view docs)
      ≡ after states (rows_states c hooks row seen (map view (drop row docs)))
      → rows_states c hooks 0 [] (map view docs) ≡ Ok states
  all_read docs row seen states ended so_far =
      so_far
      ∙ ap (λ ds. after states (rows_states c hooks row seen (map view ds)))
      (drop_all row docs ended)
      ∙ ap Ok (append-nil states)
