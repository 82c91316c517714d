use Rattle.std.proofs.Common.{◌≡◌}
use Rattle.rx_session.proofs.Naming.{IsLooking}
use Rattle.rx_session.proofs.playing.take_named.Given as goal

-- nothing was taken yet
abbrev pub invariant-loop-i : goal.invariant-loop-i
invariant-loop-i l = (l.due ≡ l.initial.due) × IsLooking l.name l.due.items l.i
