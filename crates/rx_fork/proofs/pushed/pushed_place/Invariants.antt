use Rattle.std.proofs.Common.{◌≡◌, take, option_map}
use Rattle.rx_replication.specs.Taking.{pushed_place}
use Rattle.rx_fork.proofs.pushed.pushed_place.Given as goal

-- none of the rows behind is held
abbrev pub invariant-loop-i : goal.invariant-loop-i
invariant-loop-i l =
    pushed_place l.collection.documents (option_map (λ p. p.now) l.up) (take l.i l.rows)
    ≡ pushed_place l.collection.documents (option_map (λ p. p.now) l.up) l.rows
