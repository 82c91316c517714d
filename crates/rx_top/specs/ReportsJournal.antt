-- The command `check`: what it promises, wherever it ends.
use Rattle.std.specs.Prelude.{◌≡◌, ◌≤◌, ℕ, List, length, Option, None, Some, IfSome}
use Rattle.rx_disk.specs.declared.disk.Disk.{Ghosts}
use Rattle.rx_disk.specs.Calls.{OnlyReads}
use Rattle.rx_frame.specs.File.{end_of}
use Rattle.rx_host.specs.Report.{report_of}
use Rattle.rx_journal.specs.Reading.{IsUntouched}
use Rattle.rx_outside.specs.declared.sink.Sink.{Ghosts as SinkGhosts}
use Rattle.rx_outside.specs.declared.stop.Stop.{Stop}
use Rattle.rx_outside.specs.declared.stop.Stop.TheVariants.{Full}
use Rattle.rx_store.specs.Holds.{IsJournalOfSome, IsLegalFile}
use Rattle.rx_world.specs.World.{World}
use Rattle.rx_top.specs.Tells.{HasStopCause, TellsStop, TellsText}

-- a fact of the report that is due: over a disk that tells its content, that of the legal file's
-- world; and over any disk that of some world
pub record OfReport {D : Type 0} (d : Ghosts D) (disk : D) (P : List ℕ → Type 0) : Type 0 where
  pub here : d.tells → (bodies : List (List ℕ)) (w : World) → IsLegalFile (d.content disk) bodies w
      → P (report_of w (end_of bodies) (length bodies))
  pub somewhere : (w : World) × (last : ℕ) × (records : ℕ) × P (report_of w last records)

-- A report ended with a status, from one state of its sink and its disk to a later one.
pub record ReportsJournal
    {K D : Type 0}
    (k : SinkGhosts K)
    (d : Ghosts D)
    (status : ℕ)
    (out out' : K)
    (disk disk' : D) : Type 0 where
  -- why work stopped, if it did; nothing is written to the journal, so it is never full
  pub stop : Option Stop
  pub never_full : (would limit : ℕ) → stop ≡ Some (Full would limit) → ⊥
  -- The report was written, or a front of it where the sink failed.
  pub report : stop ≡ None → OfReport d disk (λ report.
      TellsText k.tells (k.faults out) (k.faults out') (k.written out) (k.written out') status
      report)
  -- Or the disk failed, memory ran out, or the file is no journal, and the stop line tells which.
  pub stopped : IfSome stop (λ why. TellsStop k.tells (k.faults out) (k.faults out')
      (k.written out) (k.written out') status why)
  pub cause : IfSome stop (HasStopCause d disk disk')
  -- Of no other file than a journal is anything reported.
  pub stood : stop ≡ None → d.tells → IsJournalOfSome (d.content disk)
  -- Nothing is written to the journal, nor synced.
  pub untouched : d.tells → IsUntouched d disk disk'
  pub only_reads : d.tells → OnlyReads d disk disk'
  -- the counts of calls that failed don't fall
  pub counts : (k.faults out ≤ k.faults out') × (d.faults disk ≤ d.faults disk')
