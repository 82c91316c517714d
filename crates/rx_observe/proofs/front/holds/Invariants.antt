use Rattle.std.proofs.Common.{◌≡◌, drop}
use Rattle.std.specs.List.{list_any}
use Rattle.rx_query.specs.States.{is_changed}
use Rattle.rx_observe.proofs.front.holds.Given as goal

-- a row that is left has the id, if any has
abbrev pub invariant-loop-i : goal.invariant-loop-i
invariant-loop-i l =
    list_any (is_changed l.change) (drop l.i l.rows) ≡ list_any (is_changed l.change) l.rows
