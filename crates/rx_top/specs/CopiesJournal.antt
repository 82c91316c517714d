-- The command `compact`: what it promises, wherever it ends.
use Rattle.std.specs.Prelude.{◌≡◌, ◌≢◌, ◌<◌, ◌≤◌, ◌⊎◌, ⊤, ℕ, List, [], ◌++◌, codes, decimal, Option, None, IfSome}
use Rattle.rx_compact.specs.Compacting.{IsEmptyDisk}
use Rattle.rx_compact.specs.Plan.{plan}
use Rattle.rx_compact.specs.Writing.{IsCopied, IsPast, IsSafeCopy}
use Rattle.rx_compact.specs.declared.compacting.CompactFault.{CompactFault}
use Rattle.rx_compact.specs.declared.compacting.CompactFault.TheVariants.{Epoch, Exists, Stopped}
use Rattle.rx_compact.specs.declared.copying.Copied.{Copied}
use Rattle.rx_disk.specs.Moments.{LeavesOnly}
use Rattle.rx_disk.specs.declared.disk.Disk.{Ghosts}
use Rattle.rx_frame.specs.File.{end_of}
use Rattle.rx_journal.specs.Reading.{IsUntouched}
use Rattle.rx_outside.specs.Failed.{Rises}
use Rattle.rx_outside.specs.declared.sink.Sink.{Ghosts as SinkGhosts}
use Rattle.rx_outside.specs.declared.stop.Stop.TheVariants.{Disk, NotJournal, Full, Memory}
use Rattle.rx_store.specs.Holds.{IsIllegalFile, IsLegalFile}
use Rattle.rx_world.specs.Copy.{most_copied_epoch}
use Rattle.rx_world.specs.World.{World}
use Rattle.rx_top.specs.Stops.{EndsWith, stop_line, stop_status, stop_words}
use Rattle.rx_top.specs.Tells.{TellsText}

-- ---- the status, and the line

abbrev pub fault_status : CompactFault → ℕ
fault_status Exists = 11
fault_status Epoch = 12
fault_status (Stopped stop) = stop_status stop

abbrev pub fault_words : CompactFault → List ℕ
fault_words Exists = stop_line (codes "exists")
fault_words Epoch = stop_line (codes "epoch")
fault_words (Stopped stop) = stop_words stop

-- the bytes of the copy, those of the journal, and the records of the copy
abbrev pub made_line : ℕ → ℕ → ℕ → List ℕ
made_line bytes from records =
    (codes "{\"bytes\":" ++ decimal bytes)
    ++ ((codes ",\"from\":" ++ decimal from)
    ++ ((codes ",\"records\":" ++ decimal records) ++ codes "}\n"))

-- ---- the promise

-- over disks that tell their content, this holds of each legal journal whose copy begins empty
abbrev pub OverJournals
    : {D E : Type 0} → Ghosts D → Ghosts E → D → E → (List (List ℕ) → World → Type 0) → Type 0
OverJournals d e disk copy P =
    d.tells → e.tells → IsEmptyDisk e copy → (bodies : List (List ℕ)) (w : World)
    → IsLegalFile (d.content disk) bodies w → P bodies w

-- the copy is whole, and this is the line that tells of it
pub record IsMade {E : Type 0} (e : Ghosts E) (copy : E) (line : List ℕ)
    (bodies : List (List ℕ)) (w : World) : Type 0 where
  pub made : Copied
  pub is_copied : IsCopied e copy w made
  pub told : line ≡ made_line made.end (end_of bodies) made.records

-- Why there is no copy. Where the journal is none, or its epoch is too great, nothing is asked of
-- the copy's file. Want of memory is free.
abbrev pub HasCopyCause
    : {D E : Type 0} → Ghosts D → Ghosts E → ℕ → D → D → E → E → CompactFault → Type 0
-- the file for the copy holds a byte
HasCopyCause d e limit disk disk' copy copy' Exists = e.tells → e.content copy ≢ []
HasCopyCause d e limit disk disk' copy copy' Epoch =
    (copy' ≡ copy) × (d.tells → (bodies : List (List ℕ)) (w : World)
    → IsLegalFile (d.content disk) bodies w → most_copied_epoch < w.epoch)
HasCopyCause d e limit disk disk' copy copy' (Stopped Disk) =
    Rises (d.faults disk) (d.faults disk') ⊎ Rises (e.faults copy) (e.faults copy')
HasCopyCause d e limit disk disk' copy copy' (Stopped NotJournal) =
    (copy' ≡ copy) × (d.tells → IsIllegalFile (d.content disk))
-- a record of the copy would end past the limit
HasCopyCause d e limit disk disk' copy copy' (Stopped (Full would most)) =
    OverJournals d e disk copy (λ bodies w. (most ≡ limit) × IsPast (plan w) would limit)
HasCopyCause d e limit disk disk' copy copy' (Stopped Memory) = ⊤

-- A copy ended with a status, from one state of its sink and its two disks to a later one.
pub record CopiesJournal
    {K D E : Type 0}
    (k : SinkGhosts K)
    (d : Ghosts D)
    (e : Ghosts E)
    (limit status : ℕ)
    (out out' : K)
    (disk disk' : D)
    (copy copy' : E) : Type 0 where
  -- why there is no copy, if there is none
  pub fault : Option CompactFault
  -- The copy makes the journal's world, now and after a crash, and its line was written, or a front
  -- of it where the sink failed.
  pub copied : fault ≡ None → (line : List ℕ)
      × TellsText k.tells (k.faults out) (k.faults out') (k.written out) (k.written out') status
      line
      × OverJournals d e disk copy (IsMade e copy' line)
  -- Or the stop line that tells why not.
  pub stopped : IfSome fault (λ f. (status ≡ fault_status f)
      × EndsWith k.tells (k.faults out) (k.faults out') (k.written out) (k.written out')
      (fault_words f))
  pub cause : IfSome fault (HasCopyCause d e limit disk disk' copy copy')
  -- At each moment an image of the copy has no record, is no journal, or makes that world.
  pub moments : OverJournals d e disk copy
      (λ bodies w. LeavesOnly e copy copy' (IsSafeCopy w))
  -- The journal is left as it is, and so is a file that holds a byte.
  pub untouched : d.tells → IsUntouched d disk disk'
  pub kept : e.tells → e.content copy ≢ [] → IsUntouched e copy copy'
  -- the counts of calls that failed don't fall
  pub counts : (k.faults out ≤ k.faults out') × (d.faults disk ≤ d.faults disk')
      × (e.faults copy ≤ e.faults copy')
