use Rattle.std.proofs.Common.{◌≡◌, ◌++◌, map, take, filter}
use Rattle.rx_replication.specs.Known.{is_pending}
use Rattle.rx_replication.specs.Request.{push_row}
use Rattle.rx_fork.proofs.fork.Fork.rows.Given as goal

-- the rows so far, and those of the documents to come, as far as there is room
abbrev pub invariant-loop-held : goal.invariant-loop-held
invariant-loop-held l =
    (l.rows ++ map (push_row l.self.meta.now.known)
    (take l.left (filter (is_pending l.self.meta.now.known) l.held-iterator))
    ≡ map (push_row l.self.meta.now.known)
    (take l.most (filter (is_pending l.self.meta.now.known) l.initial.held-iterator)))
    × (goal.iterator-loop-held).can_next l.held-iterator
    × (goal.iterator-loop-held).is_finite l.held-iterator
