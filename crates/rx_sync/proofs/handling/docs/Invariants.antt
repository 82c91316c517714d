use Rattle.std.proofs.Common.{◌≡◌, ◌++◌, map}
use Rattle.rx_replication.specs.Master.{last_place}
use Rattle.rx_sync.proofs.handling.docs.Given as goal

-- the states so far and those of the documents to come, and the place behind them
abbrev pub invariant-loop-held : goal.invariant-loop-held
invariant-loop-held l =
    (l.states ++ map (λ d. d.state) l.held-iterator ≡ map (λ d. d.state) l.initial.held-iterator)
    × (last_place l.place l.held-iterator ≡ last_place l.initial.place l.initial.held-iterator)
    × (goal.iterator-loop-held).can_next l.held-iterator
    × (goal.iterator-loop-held).is_finite l.held-iterator
