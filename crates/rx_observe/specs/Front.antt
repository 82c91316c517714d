-- The first rows of an observed query's result without its limit, which it keeps beside its window.
use Rattle.std.specs.Prelude.{◌≡◌, ◌≤◌, ◌+◌, ◌==◌, ◌&&◌, ◌||◌, ℕ, nat_le, Bool, true, false, List, [], ◌∷◌, ◌++◌, length, min, Option, None, IfSome, if◌then◌else◌}
use Rattle.rx_document.specs.Change.{change_of, DifferAt}
use Rattle.rx_document.specs.Documents.{Documents}
use Rattle.rx_document.specs.declared.change.Change.{Change}
use Rattle.rx_query.specs.After.{with_placed, without_changed}
use Rattle.rx_query.specs.Lists.{some_passes, last_passes}
use Rattle.rx_query.specs.QuerySpec.{QuerySpec}
use Rattle.rx_query.specs.Result.{fresh_rows, IsCollection}
use Rattle.rx_query.specs.States.{live_before, precedes, is_match}
use Rattle.rx_query.specs.declared.results.Row.{Row}
use Rattle.rx_collection.specs.Held.{Held}
use Rattle.rx_observe.specs.Observing.{Queries}
use Rattle.rx_observe.specs.declared.front.Front.{Front}

-- the query without its limit
abbrev pub unlimited : QuerySpec → QuerySpec
unlimited q = record {
  clauses = q.clauses;
  sorts = q.sorts;
  skip = q.skip;
  limit = None;
  primary = q.primary;
}

-- the limit of a query that keeps a front: one that has a limit and leaves out no rows
abbrev pub kept_limit : QuerySpec → Option ℕ
kept_limit q = if q.skip == 0 then q.limit else None

-- how many rows it keeps at most: those of its window, and as many again behind them, but a hundred
-- at most
abbrev pub most_kept : ℕ → ℕ
most_kept limit = limit + min limit 100

-- the first of these, and where they are whole, all of them
pub record IsFrontOf {X : Type 0} (rows : List X) (whole : Bool) (all : List X) : Type 0 where
  pub behind : List X
  pub split : rows ++ behind ≡ all
  pub none_behind : whole ≡ true → behind ≡ []

-- no rows are kept
abbrev pub no_front : Front
no_front = record { rows = []; whole = false }

-- the first rows of the result without the limit, no more than may be kept
pub record IsFront (q : QuerySpec) (documents : Documents) (f : Front) : Type 0 where
  pub first : IsFrontOf f.rows f.whole (fresh_rows (unlimited q) documents)
  pub few : IfSome (kept_limit q) (λ limit. length f.rows ≤ most_kept limit)
  pub none : kept_limit q ≡ None → f ≡ no_front

-- each is that of the query at its place; a query without one keeps no rows
abbrev pub AreFronts : Held → Queries → List Front → Type 0
AreFronts c [] fs = Unit {0}
AreFronts c (q ∷ qs) [] = Unit {0}
AreFronts c (q ∷ qs) (f ∷ fs) = IsFront q.1.query c.documents f × AreFronts c qs fs

-- a front before a change is one after it
abbrev pub StaysFront : QuerySpec → Change → Front → Front → Type 0
StaysFront q c f f' = (old new : Documents) → IsCollection q.primary old
    → IsCollection q.primary new → DifferAt c.id old new → c ≡ change_of c.id old new
    → IsFront q old f → IsFront q new f'

-- the rows suffice for a window
abbrev pub suffices : ℕ → Front → Bool
suffices limit f = f.whole || nat_le limit (length f.rows)

-- the document as it was stood behind all rows
abbrev pub stood_behind : QuerySpec → Change → List Row → Bool
stood_behind q c rows =
    some_passes (λ x. last_passes (λ row. precedes q row.fields x) rows) (live_before c.before)

-- the document as it is now matches, and stands before the last row, unless there are no others
abbrev pub enters : QuerySpec → Change → Bool → List Row → Bool
enters q c whole rows =
    some_passes
    (λ x. is_match q x && (whole || last_passes (λ row. precedes q x row.fields) rows)) c.after

-- with its row, where that is so
abbrev pub entered : QuerySpec → Change → Bool → List Row → List Row
entered q c whole rows = if enters q c whole rows then with_placed q c rows else rows

-- of the first rows before a change those of all other documents are left
abbrev pub LeavesOthers : QuerySpec → Change → List Row → List Row → Type 0
LeavesOthers q c rows left = (old new : Documents) (whole : Bool) → q.skip ≡ 0
    → IsCollection q.primary old → IsCollection q.primary new → DifferAt c.id old new
    → c ≡ change_of c.id old new → IsFrontOf rows whole (fresh_rows (unlimited q) old)
    → left ≡ without_changed c rows
