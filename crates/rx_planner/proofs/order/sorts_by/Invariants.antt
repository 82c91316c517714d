use Rattle.std.proofs.Common.{◌≡◌, drop, is_some}
use Rattle.rx_value.specs.Named.{named}
use Rattle.rx_query.specs.QuerySpec.{asked}
use Rattle.rx_planner.proofs.order.sorts_by.Given as goal

-- the name is among those that are left, if at all
abbrev pub invariant-loop-i : goal.invariant-loop-i
invariant-loop-i l =
    is_some (named (drop l.i (asked l.query).sorts) l.name)
    ≡ is_some (named (asked l.query).sorts l.name)
