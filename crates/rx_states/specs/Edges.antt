-- What the rows at the ends hold in the field that a sort begins with.
use Rattle.std.specs.Prelude.{◌≡◌, ◌-◌, List, length, slice_get, option_map}
use Rattle.rx_query.specs.QuerySpec.{Sorts}
use Rattle.rx_query.specs.declared.results.Row.{Row}
use Rattle.rx_states.specs.Forms.{leading_in}
use Rattle.rx_states.specs.declared.edges.Edges.{Edges}

-- they are those of the first row and of the last
pub record AreEdges (sorts : Sorts) (rows : List Row) (e : Edges) : Type 0 where
  pub first : e.first ≡ leading_in sorts (option_map (λ r. r.fields) (slice_get rows 0))
  pub last : e.last
      ≡ leading_in sorts (option_map (λ r. r.fields) (slice_get rows (length rows - 1)))
