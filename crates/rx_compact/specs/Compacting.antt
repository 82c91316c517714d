-- The copy of a journal.
use Rattle.std.specs.Prelude.{◌≡◌, ◌≢◌, ◌<◌, ℕ, List, [], ◌≤◌, length, Result, IfOk, IsErrOf}
use Rattle.rx_disk.specs.declared.disk.Disk.{Ghosts}
use Rattle.rx_disk.specs.Moments.{LeavesOnly}
use Rattle.rx_frame.specs.File.{shortest}
use Rattle.rx_journal.specs.Reading.{IsUntouched}
use Rattle.rx_outside.specs.Failed.{Rises}
use Rattle.rx_outside.specs.declared.stop.Stop.TheVariants.{Disk, Full, NotJournal}
use Rattle.rx_world.specs.Copy.{most_copied_epoch}
use Rattle.rx_world.specs.World.{World}
use Rattle.rx_compact.specs.Laws.{AreTokened}
use Rattle.rx_compact.specs.Plan.{plan}
use Rattle.rx_compact.specs.Writing.{IsCopied, IsPast, IsSafeCopy}
use Rattle.rx_compact.specs.declared.compacting.CompactFault.{CompactFault}
use Rattle.rx_compact.specs.declared.compacting.CompactFault.TheVariants.{Epoch, Exists, Stopped}
use Rattle.rx_compact.specs.declared.compacting.Compacted.{Compacted}

-- the file is empty, and no image of it has room for a record
pub record IsEmptyDisk {D : Type 0} (d : Ghosts D) (disk : D) : Type 0 where
  pub content : d.content disk ≡ []
  pub images : (c : List ℕ) → d.image disk c → length c ≤ shortest

-- A call was to write the copy of a world, whose journal has so many bytes, into a file that may
-- not be empty, wherever it ended.
pub record Fills {D : Type 0} (d : Ghosts D) (old new : D) (w : World) (bytes limit : ℕ)
    (result : Result Compacted CompactFault) : Type 0 where
  pub copied : d.tells → AreTokened w
      → IfOk result (λ made. IsCopied d new w made.copied × (made.from ≡ bytes))
  pub moments : d.tells → IsEmptyDisk d old → AreTokened w → LeavesOnly d old new (IsSafeCopy w)
  pub epoch : IsErrOf result Epoch → most_copied_epoch < w.epoch
  pub exists : d.tells → IsErrOf result Exists → d.content old ≢ []
  pub unmade : IsErrOf result Epoch → new ≡ old
  pub kept : d.tells → d.content old ≢ [] → IsUntouched d old new
  pub not_journal : IsErrOf result (Stopped NotJournal) → ⊥
  pub full : d.tells → (would most : ℕ) → IsErrOf result (Stopped (Full would most))
      → (most ≡ limit) × IsPast (plan w) would most
  pub later : d.faults old ≤ d.faults new
  pub failed : IsErrOf result (Stopped Disk) → Rises (d.faults old) (d.faults new)
