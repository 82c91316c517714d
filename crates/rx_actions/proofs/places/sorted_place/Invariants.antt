use Rattle.std.proofs.Common.{◌≡◌, ◌≢◌, ℕ, ◌<◌, get_or, false}
use Rattle.rx_query.specs.QuerySpec.{asked}
use Rattle.rx_query.specs.States.{precedes}
use Rattle.rx_query.specs.declared.results.Row.{Row}
use Rattle.rx_actions.proofs.places.sorted_place.Given as goal

-- the fields precede no row so far but that one
abbrev pub invariant-loop-i : goal.invariant-loop-i
invariant-loop-i l =
    (k : ℕ) (other : Row) → k < l.i → k ≢ l.out
    → precedes (asked l.query) l.fields (get_or l.results k other).fields ≡ false
