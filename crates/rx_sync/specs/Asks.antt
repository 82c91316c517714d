-- What is remembered of a replication's requests since the journal was opened.
use Rattle.std.specs.Prelude.{ℕ, ◌+◌, min, List, [], ◌∷◌, take, Option, slice_get, unwrap_or}
use Rattle.std.specs.List.{AllByRecursion}
use Rattle.rx_value.specs.Named.{named}
use Rattle.rx_schema.specs.declared.shape.Shape.{Shape}
use Rattle.rx_wire.specs.declared.message.Request.{Request}
use Rattle.rx_fork.specs.Asked.{HasRowsApart}
use Rattle.rx_fork.specs.Valid.{is_valid}
use Rattle.rx_replication.specs.Throughout.{AskPasses}

-- The number of the last request, and the last requests, the newest first. No reply is remembered:
-- one that comes in place of another has other numbers and is dropped, whichever it is.
pub record Asks : Type 0 where
  pub n : ℕ
  pub requests : List Request

-- of a late request the link says how many were made since: 16 at most, so that many and the newest
-- one are remembered
abbrev pub most_remembered : ℕ
most_remembered = 17

-- the greatest number of a request, 2^53 - 1, which no journal reaches
abbrev pub most_number : ℕ
most_number = 9007199254740991

-- none was made
abbrev pub no_asks : Asks
no_asks = record { n = 0; requests = [] }

-- the number of the next one
abbrev pub next_number : Asks → ℕ
next_number a = min (a.n + 1) most_number

-- with one more, which has that number
abbrev pub with_request : Request → Asks → Asks
with_request q a =
    record { n = next_number a; requests = take most_remembered (q ∷ a.requests) }

-- none is remembered any more, and the numbers go on
abbrev pub forgotten : Asks → Asks
forgotten a = record { n = a.n; requests = [] }

-- the one that was made so many requests before the newest, where it is still remembered
abbrev pub earlier : ℕ → Asks → Option Request
earlier j a = slice_get a.requests j

-- the states of a request are valid, and no key comes twice among its rows
pub record IsLawfulRequest (schema : Shape) (q : Request) : Type 0 where
  pub valid : AskPasses (is_valid schema) q.ask
  pub apart : HasRowsApart q.ask

-- each remembered one is so
abbrev pub AsksAreLawful : Shape → Asks → Type 0
AsksAreLawful schema a = AllByRecursion (IsLawfulRequest schema) a.requests

-- what is remembered of a replication's, by its name
abbrev pub asks_of : List ℕ → List (List ℕ × Asks) → Asks
asks_of name asks = unwrap_or (named asks name) no_asks
