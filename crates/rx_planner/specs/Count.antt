-- How many rows a query has.
use Rattle.std.specs.Prelude.{ℕ, ◌-◌, min, Option, Some, None}
use Rattle.rx_query.specs.QuerySpec.{QuerySpec}

-- no more than that, if there is a limit
abbrev pub within_limit : Option ℕ → ℕ → ℕ
within_limit None n = n
within_limit (Some limit) n = min limit n

-- of so many due documents those that the window takes in
abbrev pub in_window : QuerySpec → ℕ → ℕ
in_window q n = within_limit q.limit (n - q.skip)
