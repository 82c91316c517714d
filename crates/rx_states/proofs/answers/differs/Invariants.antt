use Rattle.std.proofs.Common.{◌≡◌, drop}
use Rattle.std.specs.Ordering.{is_eq}
use Rattle.rx_query.specs.QuerySpec.{asked}
use Rattle.rx_query.specs.Order.{sorts_cmp}
use Rattle.rx_query.specs.States.{ties}
use Rattle.rx_states.proofs.answers.differs.Given as goal

-- the fields that are left tell them apart, if any does
abbrev pub invariant-loop-i : goal.invariant-loop-i
invariant-loop-i l =
    is_eq (sorts_cmp (drop l.i (asked l.query).sorts) l.a l.b) ≡ ties (asked l.query) l.a l.b
