-- How the fields of an observed query are seen.
use Rattle.std.specs.Prelude.{◌≡◌, false, List, Option, Some}
use Rattle.std.specs.Option.{ForSome}
use Rattle.rx_query.specs.QuerySpec.{Sorts, asked}
use Rattle.rx_query.specs.declared.results.Row.{Row}
use Rattle.rx_states.specs.Edges.{AreEdges}
use Rattle.rx_states.specs.declared.edges.Edges.{Edges}
use Rattle.rx_observe.specs.Watched.{Watched}
use Rattle.rx_observe.specs.declared.observed.Observed.TheInside.{Inside}

-- as its parts
abbrev pub watched_in : Inside → Watched
watched_in o =
    record { query = asked o.query; rows = o.rows; emitted = o.emitted; counts = o.counts }

-- rows that weren't touched since the last emission are those emitted last
abbrev pub IsTouched : Inside → Type 0
IsTouched o = o.touched ≡ false → (rows : List Row) → o.rows ≡ Some rows → o.emitted ≡ Some rows

-- where rows are kept, and edges too, these are theirs
abbrev pub HaveEdges : Sorts → Option (List Row) → Option Edges → Type 0
HaveEdges sorts rows edges = ForSome rows (λ rows. ForSome edges (AreEdges sorts rows))

-- what is kept beside the rows goes with them
pub record IsKept (o : Inside) : Type 0 where
  pub touched : IsTouched o
  pub edges : HaveEdges (asked o.query).sorts o.rows o.edges
