-- What a line that finds, counts or lists documents says.
use Rattle.std.proofs.Common.{◌≡◌, Bor, ℕ, List, [], ◌∷◌, length, map, Option, option_map, Result, Ok, refl, sym, ap, ◌∙◌}
use Rattle.serde_json.specs.Data.{Data}
use Rattle.rx_value.specs.Due.{◌>>◌}
use Rattle.rx_value.specs.Fields.{Pairs}
use Rattle.rx_value.specs.declared.state.State.{State}
use Rattle.rx_document.specs.declared.place.Place.{Place}
use Rattle.rx_document.specs.declared.stored.Stored.{Stored}
use Rattle.rx_collection.specs.Held.{Held}
use Rattle.rx_collection.specs.Since.{since}
use Rattle.rx_query.specs.QuerySpec.{QuerySpec}
use Rattle.rx_reply.specs.Answer.{changes, find, count, states_of}
use Rattle.rx_script.specs.declared.since.Since.{Since}
use Rattle.rx_session.specs.Session.{Session}
use Rattle.rx_engine.specs.Listing.{changes_answer, changes_line, place_after, place_named}
use Rattle.rx_engine.specs.Outcome.{Outcome, answer_alone, collection_at}
use Rattle.rx_engine.specs.Queries.{find_line, count_line, query_on, rows_found}
use Rattle.rx_writes.specs.declared.fault.Fault.{Fault}

module _ (coll : List ℕ) (d : Data) (s : Session) (c : Held) (q : QuerySpec) (o : Outcome)
    (at : collection_at coll s ≡ Ok c) (asked : query_on c d ≡ Ok q) where
  -- what is done with the collection and the query is what the line does
  read_line : (does : Held → QuerySpec → Result Outcome Fault) → does c q ≡ Ok o
      → (collection_at coll s >> λ c. query_on c d >> λ q. does c q) ≡ Ok o
  read_line does is =
      ap (λ (r : Result Held Fault). r >> λ c. query_on c d >> λ q. does c q) at
      ∙ ap (λ (r : Result QuerySpec Fault). r >> λ q. does c q) asked ∙ is

  -- the rows are found
  pub found_line : (rows : List Pairs) → rows ≡ rows_found q c.documents
      → o ≡ answer_alone (find rows)
      → find_line coll d s ≡ Ok o
  found_line rows are is =
      let says : List Pairs → Result Outcome Fault = λ rows. Ok (answer_alone (find rows)) in
      let does : Outcome → Result Outcome Fault = λ o. Ok o in
      read_line (λ c q. Ok (answer_alone (find (rows_found q c.documents))))
      (ap says (sym are) ∙ ap does (sym is))

  -- they are counted
  pub counted_line : (n : ℕ) → n ≡ length (rows_found q c.documents) → o ≡ answer_alone (count n)
      → count_line coll d s ≡ Ok o
  counted_line n are is =
      let says : ℕ → Result Outcome Fault = λ n. Ok (answer_alone (count n)) in
      let does : Outcome → Result Outcome Fault = λ o. Ok o in
      read_line (λ c q. Ok (answer_alone (count (length (rows_found q c.documents)))))
      (ap says (sym are) ∙ ap does (sym is))

-- the states of lent documents
lent_states : (docs : List (Bor Stored))
    → map (λ d. d.state) (map (λ b. b.now) docs) ≡ states_of docs
lent_states [] = refl
lent_states (d ∷ ds) = ap (λ ss. d.now.state ∷ ss) (lent_states ds)

-- a page is listed, and the place that it goes up to
pub listed_line : (coll : List ℕ) (asked : Option Since) (batch : ℕ) (s : Session) (c : Held)
    (o : Outcome) (docs : List (Bor Stored)) (place : Option Place)
    → collection_at coll s ≡ Ok c
    → map (λ b. b.now) docs ≡ since c.documents (option_map place_named asked) batch
    → place ≡ place_after (option_map place_named asked) (map (λ b. b.now) docs)
    → o ≡ answer_alone (changes (states_of docs) place) → changes_line coll asked batch s ≡ Ok o
listed_line coll asked batch s c o docs place at are up is =
    let from : Option Place = option_map place_named asked in
    let lists : List Stored → Result Outcome Fault =
    λ page. Ok (answer_alone (changes_answer from page)) in
    let says : List State → Option Place → Result Outcome Fault =
    λ ss p. Ok (answer_alone (changes ss p)) in
    let does : Outcome → Result Outcome Fault = λ o. Ok o in
    ap (λ (r : Result Held Fault). r >> λ c. lists (since c.documents from batch)) at
    ∙ ap lists (sym are)
    ∙ ap (says (map (λ d. d.state) (map (λ b. b.now) docs))) (sym up)
    ∙ ap (λ (ss : List State). says ss place) (lent_states docs)
    ∙ ap does (sym is)
