-- The command `trial`: what it promises, wherever it ends.
use Rattle.std.specs.Prelude.{◌≡◌, ◌≤◌, ⊤, ℕ, List, [], ◌++◌, Bool, false, Option, None, Some, IfSome, Result, Ok, Err, MatchOption}
use Rattle.rx_disk.specs.declared.disk.Disk.{Ghosts}
use Rattle.rx_engine.specs.Dialled.{DialStanding}
use Rattle.rx_engine.specs.Opening.{Host, opened}
use Rattle.rx_engine.specs.Standing.{Standing}
use Rattle.rx_journal.specs.Reading.{IsUntouched}
use Rattle.rx_outside.specs.declared.dial.Dial.{Ghosts as DialGhosts}
use Rattle.rx_outside.specs.declared.sink.Sink.{Ghosts as SinkGhosts}
use Rattle.rx_outside.specs.declared.stop.Stop.{Stop}
use Rattle.rx_store.specs.Holds.{IsIllegalFile, IsJournalOfSome}
use Rattle.rx_sync.specs.Remote.{Heard}
use Rattle.rx_trial.specs.Lines.{script}
use Rattle.rx_world.specs.World.{World}
use Rattle.rx_top.specs.Chunks.{singly}
use Rattle.rx_top.specs.Hears.{HearsAll, stands}
use Rattle.rx_top.specs.Run.{KeepsRun}
use Rattle.rx_top.specs.Start.{FromStart, StaysLegal}
use Rattle.rx_top.specs.Tally.{summary_of}
use Rattle.rx_top.specs.Tells.{HasStopCause, IsStoodBy, TellsStop, TellsText}
use Rattle.rx_top.specs.declared.early_end.EarlyEnd.{EarlyEnd}
use Rattle.rx_top.specs.declared.early_end.EarlyEnd.TheVariants.{Work}

-- ---- how it ends

-- Lines are done, one after another: all of them, or some where work stopped. What a dial shows of
-- them, and what a disk keeps of those done and may keep of the rest, is said beside it.
pub record DoesLines
    (lines : List (List ℕ))
    (stop : Option Stop)
    (Shown Kept : List (List ℕ) → List (List ℕ) → Type 0) : Type 0 where
  pub done : List (List ℕ)
  pub rest : List (List ℕ)
  pub whole : lines ≡ done ++ rest
  pub all : stop ≡ None → rest ≡ []
  pub shown : Shown done rest
  pub kept : Kept done rest

-- such an end as that of a run
abbrev pub as_run : Option Stop → Result Bool EarlyEnd
as_run None = Ok false
as_run (Some why) = Err (Work why)

-- A trial of lines, as things stand, ended with a status: they are done, and their summary is
-- written, or a front of it where the sink failed; or work stopped, and the line that tells of it
-- is.
pub record HasTried
    (wires : Type 0)
    (dial dial' : DialStanding)
    (tells : Type 0)
    (faults faults' : ℕ)
    (written written' : List ℕ)
    (lines : List (List ℕ))
    (s : Standing)
    (status : ℕ)
    (stop : Option Stop)
    (Kept : List (List ℕ) → List (List ℕ) → Type 0) : Type 0 where
  pub does : DoesLines lines stop (HearsAll wires s dial dial' (as_run stop)) Kept
  pub told : MatchOption stop
      (TellsText tells faults faults' written written' status (summary_of lines s))
      (λ why. TellsStop tells faults faults' written written' status why)

-- ---- what it promises

-- A trial of the script of a seed, with so many lines of its own, ended with a status, from one
-- state of its sink, its disk and its dial to a later one. Its journal may have so many bytes, and
-- its conflicts are resolved by handlers of this host; and this was heard of masters elsewhere,
-- exchange after exchange, where the journal has a replication with such a master under the
-- script's name.
pub record TriesScript
    {K D N W : Type 0}
    (k : SinkGhosts K)
    (d : Ghosts D)
    (n : DialGhosts N W)
    (wires : Type 0)
    (host : Host)
    (heard : List Heard)
    (limit seed count status : ℕ)
    (out out' : K)
    (disk disk' : D)
    (dial dial' : N) : Type 0 where
  -- why work stopped, if it did
  pub stop : Option Stop
  -- Some lines of the script are done, all of them where no work stopped, and the summary or the
  -- stop line is written, or a front of it where the sink failed. The dial shows what was heard in
  -- each line. At each moment of the call each image of the disk is a legal file of the old records
  -- and a front of those that are due, as in a run of these lines that commits each by itself, and
  -- at its end it has all those of the lines done.
  pub headline : FromStart d disk (λ bodies w.
      HasTried wires (stands n dial) (stands n dial') k.tells (k.faults out) (k.faults out')
      (k.written out) (k.written out') (script seed count) (opened host heard w) status stop
      (KeepsRun singly host heard d disk disk' bodies w limit (as_run stop)))
  -- Over any disk: the same of what was written, from some world on.
  pub over_any_disk : (w : World)
      × HasTried wires (stands n dial) (stands n dial') k.tells (k.faults out) (k.faults out')
      (k.written out) (k.written out') (script seed count) (opened host heard w) status stop
      (λ done rest. ⊤)
  -- So each image is a legal file that goes on from the old records.
  pub legal : FromStart d disk (λ bodies w. StaysLegal d disk disk' bodies)
  -- A file that isn't legal stays as it was, and nothing that a crash leaves is new.
  pub illegal : d.tells → IsIllegalFile (d.content disk) → IsUntouched d disk disk'
  -- It stopped for that cause, and only over a journal was a line played, or one full.
  pub cause : IfSome stop (HasStopCause d disk disk')
  pub stood : d.tells → IsStoodBy stop → IsJournalOfSome (d.content disk)
  -- the counts of calls that failed don't fall
  pub counts : (k.faults out ≤ k.faults out') × (d.faults disk ≤ d.faults disk')
      × (n.faults dial ≤ n.faults dial')
