-- How observed queries are told apart.
use Rattle.std.specs.Prelude.{Bool, List, Option, refl}
use Rattle.std.specs.Coded.{Coded, code_by, coded×, coded_list, coded_option, coded_ℕ, coded_bool}
use Rattle.rx_query.specs.QuerySpec.{QuerySpec}
use Rattle.rx_query.specs.contracts.results.Row as row
use Rattle.rx_query.specs.declared.results.Row.{Row}
use Rattle.rx_collection.specs.Held.{Held}
use Rattle.rx_collection.specs.contracts.collection.Collection as collection
use Rattle.rx_observe.specs.AskedCode.{asked_code}
use Rattle.rx_observe.specs.Observing.{Observing, Queries}
use Rattle.rx_observe.specs.Watched.{Watched}
use Rattle.rx_table.specs.contracts.counts.Counts as counts
use Rattle.rx_table.specs.declared.counts.Counts.{Counts}

-- rows that may be kept
abbrev pub rows_code : Coded (Option (List Row))
rows_code = coded_option (coded_list row.the_row.coded)

-- an observed query, as the tuple of its parts
abbrev pub watched_code : Coded Watched
watched_code =
    code_by (QuerySpec × (Option (List Row) × (Option (List Row) × Counts)))
    (coded× asked_code (coded× rows_code (coded× rows_code counts.the_row.coded)))
    (λ w. (w.query, (w.rows, (w.emitted, w.counts))))
    (λ p. record { query = p.0; rows = p.1.0; emitted = p.1.1.0; counts = p.1.1.1 })
    (λ _. refl)

-- named ones, in a list
abbrev pub queries_code : Coded Queries
queries_code = coded_list (coded× (coded_list coded_ℕ) watched_code)

-- a collection with them
abbrev pub observing_code : Coded Observing
observing_code =
    code_by (Held × (Queries × Bool))
    (coded× collection.the_row.coded (coded× queries_code coded_bool))
    (λ o. (o.collection, (o.queries, o.broken)))
    (λ p. record { collection = p.0; queries = p.1.0; broken = p.1.1 })
    (λ _. refl)
