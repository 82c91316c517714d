-- The index that wins.
use Rattle.std.specs.Prelude.{ℕ, ◌<◌, ◌≤◌, List}
use Rattle.rx_query.specs.QuerySpec.{QuerySpec}
use Rattle.rx_planner.specs.Plan.{Names, score, path_at}

-- of the first n indexes the first with the greatest score
pub record IsBest (q : QuerySpec) (indexes : List Names) (n best : ℕ) : Type 0 where
  pub within : best < n
  pub greatest : (k : ℕ) → k < n
      → score q (path_at q indexes k) ≤ score q (path_at q indexes best)
  pub first : (k : ℕ) → k < best
      → score q (path_at q indexes k) < score q (path_at q indexes best)
