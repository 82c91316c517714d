-- What a query found is its rows from scratch.
use Rattle.std.proofs.Common.{◌≡◌, Bor, List, [], ◌∷◌, length, map, refl, sym, ap, ◌∙◌}
use Rattle.std.proofs.lemmas.List.{length-map}
use Rattle.std.specs.Map.{values_of}
use Rattle.rx_document.specs.Documents.{Documents}
use Rattle.rx_document.specs.declared.stored.Stored.{Stored}
use Rattle.rx_query.specs.QuerySpec.{QuerySpec}
use Rattle.rx_query.specs.Result.{fresh_rows, result_of, row_of}
use Rattle.rx_reply.specs.Answer.{rows_of}
use Rattle.rx_reply.specs.Emission.{rows_fields}
use Rattle.rx_engine.specs.Queries.{rows_found}

-- the fields of lent documents are those of their rows
lent_fields : (docs : List (Bor Stored))
    → rows_of docs ≡ rows_fields (map row_of (map (λ d. d.now) docs))
lent_fields [] = refl
lent_fields (d ∷ ds) = ap (λ rows. d.now.state.fields ∷ rows) (lent_fields ds)

module _ (q : QuerySpec) (documents : Documents) (docs : List (Bor Stored))
    (are : map (λ d. d.now) docs ≡ result_of q (values_of documents)) where
  -- the fields of lent documents that a query found are those of its rows
  pub found_rows : rows_of docs ≡ rows_found q documents
  unfolding fresh_rows
  found_rows = lent_fields docs ∙ ap (λ ds. rows_fields (map row_of ds)) are

-- there are as many as the result has
pub rows_count : (q : QuerySpec) (documents : Documents)
    → length (result_of q (values_of documents)) ≡ length (rows_found q documents)
unfolding fresh_rows
rows_count q documents =
    let found = result_of q (values_of documents) in
    sym (length-map found row_of) ∙ sym (length-map (map row_of found) (λ r. r.fields))
