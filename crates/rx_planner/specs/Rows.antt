-- The rows that a walk along an index meets.
use Rattle.std.specs.Prelude.{◌≡◌, ℕ, ◌+◌, ◌≤◌, ◌==◌, ◌⊎◌, Bool, not, ◌&&◌, List, [], ◌++◌, length, take, Option, Some, None, option_map}
use Rattle.std.specs.List.{IsDistinct, filter_map}
use Rattle.std.specs.List.Sorted.{IsStrictlySortedBy}
use Rattle.std.specs.Ordering.{eq_by_cmp}
use Rattle.rx_value.specs.Due.{only_if}
use Rattle.rx_value.specs.Named.{named}
use Rattle.rx_value.specs.declared.value.Value.{Value}
use Rattle.rx_value.specs.declared.value.Value.TheVariants.{Text}
use Rattle.rx_document.specs.Documents.{Documents}
use Rattle.rx_document.specs.declared.stored.Stored.{Stored}
use Rattle.rx_query.specs.QuerySpec.{QuerySpec}
use Rattle.rx_query.specs.Lists.{sorted, some_passes}
use Rattle.rx_query.specs.Result.{is_due, stored_before, stored_cmp}

-- the document, if it is due
abbrev pub if_due : QuerySpec → Option Stored → Option Stored
if_due q None = None
if_due q (Some d) = only_if (is_due q d) (Some d)

-- the due documents of those primary keys
abbrev pub due_among : QuerySpec → Documents → List (List ℕ) → List Stored
due_among q documents ids = filter_map (λ id. if_due q (named documents id)) ids

-- the due document of a primary key, which is a text
abbrev pub due_at : QuerySpec → Documents → Value → Option Stored
due_at q documents (Text id) = if_due q (named documents id)
due_at q documents _ = None

-- the window takes in a first row
abbrev pub shows_first : QuerySpec → Bool
shows_first q = q.skip == 0 && not (some_passes (λ limit. limit == 0) q.limit)

-- how many rows the window and what is skipped are, if that is limited
abbrev pub most_rows : QuerySpec → Option ℕ
most_rows q = option_map (λ limit. q.skip + limit) q.limit

-- no more than are wanted
abbrev pub AtMost : Option ℕ → ℕ → Type 0
AtMost None n = Unit {0}
AtMost (Some most) n = n ≤ most

-- all wanted rows are met, or all that there are
abbrev pub IsFull : Option ℕ → ℕ → List (List ℕ) → Type 0
IsFull None n ids = ids ≡ []
IsFull (Some most) n ids = (n ≡ most) ⊎ ((n ≤ most) × (ids ≡ []))

-- the first n of all in order are the first n of these rows and the rest in order; n rows or more
-- are there, of which the first n are in order, and none tie
pub record StandsFor (q : QuerySpec) (n : ℕ) (all rows rest : List Stored) : Type 0 where
  pub as_many : n ≤ length rows
  pub in_order : IsStrictlySortedBy (stored_cmp q) (take n rows)
  pub apart : IsDistinct (eq_by_cmp (stored_cmp q)) (rows ++ rest)
  pub first : take n (sorted (stored_before q) (rows ++ rest))
      ≡ take n (sorted (stored_before q) all)
