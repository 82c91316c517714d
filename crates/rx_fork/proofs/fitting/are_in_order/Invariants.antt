use Rattle.std.proofs.Common.{◌≡◌, None}
use Rattle.rx_fork.specs.BadReply.{first_foreign}
use Rattle.rx_fork.proofs.fitting.are_in_order.Given as goal

-- those before have a row
abbrev pub invariant-loop-row : goal.invariant-loop-row
invariant-loop-row l =
    first_foreign l.rows l.left ≡ None → first_foreign l.rows l.conflicts ≡ None
