use Rattle.std.proofs.Common.{◌≡◌, ◌++◌, drop}
use Rattle.rx_sync.specs.Exchange.{state_keys}
use Rattle.rx_sync.proofs.copies.state_keys.Given as goal

-- the keys so far, and those of the states to come
abbrev pub invariant-loop-state : goal.invariant-loop-state
invariant-loop-state l =
    l.keys ++ state_keys (drop l.state-index l.states) ≡ state_keys l.states
