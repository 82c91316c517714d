-- The lines that read documents and observe queries.
use Rattle.std.specs.Prelude.{ℕ, List, length, not, nat_lt, Result, Ok}
use Rattle.serde_json.specs.Data.{Data}
use Rattle.rx_value.specs.Due.{◌>>◌, demand, lifted, or_fault}
use Rattle.rx_value.specs.Fields.{Pairs}
use Rattle.rx_schema.specs.Writing.{kinds_of}
use Rattle.rx_query.specs.QuerySpec.{QuerySpec}
use Rattle.rx_query.specs.Reading.{query_of}
use Rattle.rx_query.specs.Result.{fresh_rows}
use Rattle.rx_collection.specs.Held.{Held}
use Rattle.rx_document.specs.Documents.{Documents}
use Rattle.rx_reply.specs.Answer.{get, find, count, observe, unobserve, explain}
use Rattle.rx_reply.specs.Emission.{rows_fields}
use Rattle.rx_reply.specs.declared.refusal.Refusal.TheVariants.{Exists, NoQuery, TooMany}
use Rattle.rx_session.specs.Doing.{watch, unwatch}
use Rattle.rx_session.specs.Session.{Session, is_observed, counts_of}
use Rattle.rx_writes.specs.Documents.{document_at}
use Rattle.rx_writes.specs.Faults.{of_query}
use Rattle.rx_engine.specs.Outcome.{Outcome, answer_alone, collection_at}
use Rattle.rx_writes.specs.declared.fault.Fault.{Fault}
use Rattle.rx_writes.specs.declared.fault.Fault.TheVariants.{Refused}

abbrev pub get_line : List ℕ → List ℕ → Session → Result Outcome Fault
get_line coll key s =
    collection_at coll s >> λ c. document_at c key >> λ d. Ok (answer_alone (get d))

-- the fields of the rows that a query gives from scratch
abbrev pub rows_found : QuerySpec → Documents → List Pairs
rows_found q documents = rows_fields (fresh_rows q documents)

-- what a query asks of a collection
abbrev pub query_on : Held → Data → Result QuerySpec Fault
query_on c d = lifted of_query (query_of (kinds_of c.schema.properties) c.schema.primary d)

abbrev pub find_line : List ℕ → Data → Session → Result Outcome Fault
find_line coll d s =
    collection_at coll s >> λ c. query_on c d >> λ q.
    Ok (answer_alone (find (rows_found q c.documents)))

abbrev pub count_line : List ℕ → Data → Session → Result Outcome Fault
count_line coll d s =
    collection_at coll s >> λ c. query_on c d >> λ q.
    Ok (answer_alone (count (length (rows_found q c.documents))))

-- the most observed queries
abbrev pub max_queries : ℕ
max_queries = 256

abbrev pub observe_line : List ℕ → List ℕ → Data → Session → Result Outcome Fault
observe_line name coll d s =
    collection_at coll s >> λ c.
    demand (not (is_observed name s)) (Refused Exists) >> λ _.
    query_on c d >> λ q.
    demand (nat_lt (length s.queries) max_queries) (Refused TooMany) >> λ _.
    Ok (record { doing = watch name coll q; answer = observe })

abbrev pub unobserve_line : List ℕ → Session → Result Outcome Fault
unobserve_line name s =
    demand (is_observed name s) (Refused NoQuery) >> λ _.
    Ok (record { doing = unwatch name; answer = unobserve })

abbrev pub explain_line : List ℕ → Session → Result Outcome Fault
explain_line name s =
    or_fault (Refused NoQuery) (counts_of name s) >> λ counts. Ok (answer_alone (explain counts))
