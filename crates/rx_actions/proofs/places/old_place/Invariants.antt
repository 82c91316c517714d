use Rattle.std.proofs.Common.{◌≡◌, ℕ, ◌<◌, get_or, false}
use Rattle.rx_query.specs.States.{is_changed}
use Rattle.rx_query.specs.declared.results.Row.{Row}
use Rattle.rx_actions.proofs.places.old_place.Given as goal

-- no row so far is the document's
abbrev pub invariant-loop-i : goal.invariant-loop-i
invariant-loop-i l =
    (k : ℕ) (other : Row) → k < l.i → is_changed l.change (get_or l.results k other) ≡ false
