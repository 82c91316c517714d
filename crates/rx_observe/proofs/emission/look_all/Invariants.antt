use Rattle.std.proofs.Common.{◌≡◌, ◌++◌, drop}
use Rattle.rx_observe.specs.Rows.{emissions_of, places_of}
use Rattle.rx_observe.proofs.emission.look_all.Given as goal

-- with those of the queries to come
abbrev pub invariant-loop-place : goal.invariant-loop-place
invariant-loop-place l =
    (l.queries.items ≡ l.fn.queries.items)
    × (l.unseen.emissions.items ++ emissions_of (drop l.place l.fn.queries.items)
    ≡ emissions_of l.fn.queries.items)
    × (l.unseen.places.items ++ places_of l.place (drop l.place l.fn.queries.items)
    ≡ places_of 0 l.fn.queries.items)
