-- How many calls of a disk a run makes.
use Rattle.std.specs.Prelude.{◌≡◌, ℕ, ◌+◌, min}
use Rattle.rx_outside.specs.Failed.{last_count}
use Rattle.rx_disk.specs.declared.disk.Disk.{Ghosts}

-- it writes and syncs nothing
abbrev pub OnlyReads : {D : Type 0} → Ghosts D → D → D → Type 0
OnlyReads d old new = d.changes new ≡ d.changes old

-- it makes so many writes and syncs, and no other call
abbrev pub MakesChanges : {D : Type 0} → Ghosts D → ℕ → D → D → Type 0
MakesChanges d count old new =
    (d.changes new ≡ min (d.changes old + count) last_count) × (d.reads new ≡ d.reads old)
