-- Queries, whatever memory they lie in.
use Rattle.std.specs.Prelude.{ℕ, Bool, List, Option, Some}
use Rattle.rx_selector.specs.Tree.{Clauses, selector_clauses}
use Rattle.rx_query.specs.declared.query.Query.{Query}

-- the fields to sort by, and whether the order of each is reversed
abbrev pub Sorts : Type 0
Sorts = List (List ℕ × Bool)

-- what is asked for: what the fields must hold, the order, how many rows are left out in front,
-- how many are left at most, and the primary key
pub record QuerySpec : Type 0 where
  pub clauses : Clauses
  pub sorts : Sorts
  pub skip : ℕ
  pub limit : Option ℕ
  pub primary : List ℕ

-- what a query asks for
abbrev pub asked : Query → QuerySpec
asked q = record {
  clauses = selector_clauses q.selector;
  sorts = q.sorts.items;
  skip = q.skip;
  limit = q.limit;
  primary = q.primary;
}

-- the same with another limit
abbrev pub with_limit : ℕ → QuerySpec → QuerySpec
with_limit limit q = record {
  clauses = q.clauses;
  sorts = q.sorts;
  skip = q.skip;
  limit = Some limit;
  primary = q.primary;
}
