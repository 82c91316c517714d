use Rattle.std.proofs.Common.{◌≡◌, ◌≤◌, take}
use Rattle.rx_observe.proofs.front.Front.window.Given as goal

-- the first i rows, which are no more than the window has
abbrev pub invariant-loop-i : goal.invariant-loop-i
invariant-loop-i l = (l.window ≡ take l.i l.self.rows) × (l.i ≤ l.limit)
