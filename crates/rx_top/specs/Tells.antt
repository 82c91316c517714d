-- A command that comes to one text or stops: its status, and what it writes.
use Rattle.std.specs.Prelude.{◌≡◌, ◌⊎◌, ⊤, ℕ, List, ◌++◌, Option, None, Some}
use Rattle.rx_disk.specs.declared.disk.Disk.{Ghosts}
use Rattle.rx_outside.specs.Failed.{Rises}
use Rattle.rx_outside.specs.Sink.{WritesFront}
use Rattle.rx_outside.specs.declared.stop.Stop.{Stop}
use Rattle.rx_outside.specs.declared.stop.Stop.TheVariants.{Disk, NotJournal, Full, Memory}
use Rattle.rx_store.specs.Holds.{IsIllegalFile}
use Rattle.rx_top.specs.Stops.{EndsWith, stop_status, stop_words}

-- the sink took the text, and the status is 0; or it failed after a front of it, and the status is
-- 5
abbrev pub TellsText : Type 0 → ℕ → ℕ → List ℕ → List ℕ → ℕ → List ℕ → Type 0
TellsText tells faults faults' old new status text =
    ((status ≡ 0) × (tells → new ≡ old ++ text))
    ⊎ ((status ≡ 5) × Rises faults faults' × (tells → WritesFront old new text))

-- the status is the stop's, and the sink took its line, or a front of it where it failed
abbrev pub TellsStop : Type 0 → ℕ → ℕ → List ℕ → List ℕ → ℕ → Stop → Type 0
TellsStop tells faults faults' old new status stop =
    (status ≡ stop_status stop) × EndsWith tells faults faults' old new (stop_words stop)

-- Why work stops so: the disk failed, or its file is no journal. Want of memory is free, and of a
-- record that has no room the command tells.
abbrev pub HasStopCause : {D : Type 0} → Ghosts D → D → D → Stop → Type 0
HasStopCause d disk disk' Disk = Rises (d.faults disk) (d.faults disk')
HasStopCause d disk disk' NotJournal = d.tells → IsIllegalFile (d.content disk)
HasStopCause d disk disk' (Full would limit) = ⊤
HasStopCause d disk disk' Memory = ⊤

-- only over a journal is a text told, or a record without room
abbrev pub IsStoodBy : Option Stop → Type 0
IsStoodBy None = ⊤
IsStoodBy (Some (Full would limit)) = ⊤
IsStoodBy (Some Disk) = ⊥
IsStoodBy (Some NotJournal) = ⊥
IsStoodBy (Some Memory) = ⊥
