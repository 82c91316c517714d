use Rattle.std.proofs.Common.{◌≡◌, ◌++◌, drop}
use Rattle.rx_fork.proofs.pulled.copies.Given as goal

-- the copies so far, and the states to come
abbrev pub invariant-loop-state : goal.invariant-loop-state
invariant-loop-state l = l.copies.items ++ drop l.state-index l.states ≡ l.states
