use Rattle.std.proofs.Common.{◌≡◌, drop}
use Rattle.std.specs.List.{list_all}
use Rattle.rx_query.specs.QuerySpec.{asked}
use Rattle.rx_planner.specs.Plan.{rises_freely}
use Rattle.rx_planner.proofs.order.rises_freely.Given as goal

-- the fields that are left decide
abbrev pub invariant-loop-i : goal.invariant-loop-i
invariant-loop-i l =
    list_all (rises_freely (asked l.query)) (drop l.i (asked l.query).sorts)
    ≡ list_all (rises_freely (asked l.query)) (asked l.query).sorts
