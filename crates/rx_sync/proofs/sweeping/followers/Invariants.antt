use Rattle.std.proofs.Common.{◌≡◌, ◌++◌, drop, map}
use Rattle.rx_sync.specs.Sweep.{forks_among}
use Rattle.rx_sync.proofs.sweeping.followers.Given as goal

-- those so far, and then those that are left
abbrev pub invariant-loop-replication : goal.invariant-loop-replication
invariant-loop-replication l =
    map (λ t. t.now) l.list.items
    ++ forks_among (map (λ r. r.now) (drop l.replication-index l.forks)) l.name
    ≡ forks_among (map (λ r. r.now) l.forks) l.name
