use Rattle.std.proofs.Common.{◌≡◌, drop}
use Rattle.rx_query.specs.Order.{sorts_cmp}
use Rattle.rx_query.proofs.comparing.compare.Given as goal

-- the fields so far tie
abbrev pub invariant-loop-name : goal.invariant-loop-name
invariant-loop-name l = sorts_cmp (drop l.name-index l.sorts) l.a l.b ≡ sorts_cmp l.sorts l.a l.b
