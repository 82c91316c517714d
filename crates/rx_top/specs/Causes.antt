-- Why work on lines ends early.
use Rattle.std.specs.Prelude.{◌≡◌, ◌≤◌, ℕ, Result, IsErrOf}
use Rattle.rx_disk.specs.declared.disk.Disk.{Ghosts}
use Rattle.rx_outside.specs.Failed.{Rises}
use Rattle.rx_outside.specs.declared.sink.Sink.{Ghosts as SinkGhosts}
use Rattle.rx_outside.specs.declared.source.Source.{Ghosts as SourceGhosts}
use Rattle.rx_outside.specs.declared.stop.Stop.{Stop}
use Rattle.rx_outside.specs.declared.stop.Stop.TheVariants.{Disk, NotJournal, Full, Memory}
use Rattle.rx_store.specs.Holds.{IsIllegalFile}
use Rattle.rx_top.specs.declared.early_end.EarlyEnd.{EarlyEnd}
use Rattle.rx_top.specs.declared.early_end.EarlyEnd.TheVariants.{Read, Sink, Work}
use Rattle.rx_top.specs.declared.early_end.ReadFault.{ReadFault}
use Rattle.rx_top.specs.declared.early_end.ReadFault.TheVariants as fault

-- the count of a source's faults never falls, and a read that failed shows in it
pub record HasReadCause {A : Type 0} (before now : ℕ) (result : Result A ReadFault) : Type 0 where
  pub later : before ≤ now
  pub failed : IsErrOf result fault.Failed → Rises before now

-- Each early end has its cause: a sink or a disk that failed counted it, and where reading failed
-- or work stopped, so much holds of how it did. The counts never fall.
pub record HasCause
    {K D A : Type 0}
    (k : SinkGhosts K)
    (d : Ghosts D)
    (OnRead : ReadFault → Type 0)
    (OnStop : Stop → Type 0)
    (out out' : K)
    (old new : D)
    (result : Result A EarlyEnd) : Type 0 where
  pub sink : IsErrOf result Sink → Rises (k.faults out) (k.faults out')
  pub disk : IsErrOf result (Work Disk) → Rises (d.faults old) (d.faults new)
  pub read : (why : ReadFault) → IsErrOf result (Read why) → OnRead why
  pub stop : (why : Stop) → IsErrOf result (Work why) → OnStop why
  pub sink_faults : k.faults out ≤ k.faults out'
  pub disk_faults : d.faults old ≤ d.faults new

-- ---- where reading failed

-- nothing is read
abbrev pub never_read : ReadFault → Type 0
never_read why = ⊥

-- the source failed, and counted it; else the input is too long, or memory is wanting
abbrev pub source_failed : {S : Type 0} → SourceGhosts S → S → S → ReadFault → Type 0
source_failed s source source' fault.Failed = Rises (s.faults source) (s.faults source')
source_failed s source source' fault.TooLong = Unit
source_failed s source source' fault.Memory = Unit

-- ---- where work stopped

-- by the disk, and by nothing else
abbrev pub by_disk : Stop → Type 0
by_disk Disk = Unit
by_disk NotJournal = ⊥
by_disk (Full would most) = ⊥
by_disk Memory = ⊥

-- or for want of memory
abbrev pub by_disk_or_memory : Stop → Type 0
by_disk_or_memory Disk = Unit
by_disk_or_memory NotJournal = ⊥
by_disk_or_memory (Full would most) = ⊥
by_disk_or_memory Memory = Unit

-- by anything; and where the file is no journal, so much holds
abbrev pub by_any : Type 0 → Stop → Type 0
by_any NoJournal Disk = Unit
by_any NoJournal NotJournal = NoJournal
by_any NoJournal (Full would most) = Unit
by_any NoJournal Memory = Unit

-- a file that is no journal: it isn't legal, and nothing was read yet nor written
pub record IsUnopened
    {S K D : Type 0}
    (k : SinkGhosts K)
    (d : Ghosts D)
    (source source' : S)
    (out out' : K)
    (disk : D) : Type 0 where
  pub illegal : IsIllegalFile (d.content disk)
  pub unread : source' ≡ source
  pub unsaid : k.tells → k.written out' ≡ k.written out
