-- The command `run`: what it promises, wherever it ends. What its end tells besides is in RunEnds.
use Rattle.std.specs.Prelude.{◌≡◌, ◌≤◌, ⊤, ℕ, List, [], Bool, codes, Result, Ok, Err}
use Rattle.rx_disk.specs.declared.disk.Disk.{Ghosts}
use Rattle.rx_engine.specs.Opening.{Host}
use Rattle.rx_journal.specs.Reading.{IsUntouched}
use Rattle.rx_outside.specs.Failed.{Rises}
use Rattle.rx_outside.specs.declared.dial.Dial.{Ghosts as DialGhosts}
use Rattle.rx_outside.specs.declared.sink.Sink.{Ghosts as SinkGhosts}
use Rattle.rx_outside.specs.declared.source.Source.{Ghosts as SourceGhosts}
use Rattle.rx_outside.specs.declared.stop.Stop.TheVariants.{Disk, NotJournal, Full, Memory}
use Rattle.rx_store.specs.Holds.{IsIllegalFile, IsJournalOfSome}
use Rattle.rx_sync.specs.Remote.{Heard}
use Rattle.rx_top.specs.Chunks.{in_groups}
use Rattle.rx_top.specs.Hears.{stands}
use Rattle.rx_top.specs.Reader.{Took, max_input_bytes}
use Rattle.rx_top.specs.Run.{HasRun, HasRunSomewhere, KeepsRun, NeedsJournal}
use Rattle.rx_top.specs.Start.{FromStart, StaysLegal}
use Rattle.rx_top.specs.Stops.{Stops, last_words, status_of, stop_line}
use Rattle.rx_top.specs.declared.early_end.EarlyEnd.{EarlyEnd}
use Rattle.rx_top.specs.declared.early_end.EarlyEnd.TheVariants.{Read, Sink, Work}
use Rattle.rx_top.specs.declared.early_end.ReadFault.TheVariants as fault

-- a file that is no journal is why a run ended before it read anything: the stop line alone is
-- written
pub record IsRefused
    {S K D : Type 0}
    (k : SinkGhosts K)
    (d : Ghosts D)
    (source source' : S)
    (out out' : K)
    (disk : D) : Type 0 where
  pub illegal : IsIllegalFile (d.content disk)
  pub unread : source' ≡ source
  pub line : Stops k.tells (k.faults out) (k.faults out') (k.written out) (k.written out') []
      (stop_line (codes "not_journal"))

-- Why a run ends so. Want of memory is free, and of the input that is too long and of the record
-- that has no room the headline tells.
abbrev pub HasRunCause
    : {S K D : Type 0} → SourceGhosts S → SinkGhosts K → Ghosts D → S → S → K → K → D → D
    → Result Bool EarlyEnd → Type 0
HasRunCause s k d source source' out out' disk disk' (Ok refused) = s.tells → s.left source' ≡ []
HasRunCause s k d source source' out out' disk disk' (Err (Read fault.Failed)) =
    Rises (s.faults source) (s.faults source')
HasRunCause s k d source source' out out' disk disk' (Err (Read fault.TooLong)) = ⊤
HasRunCause s k d source source' out out' disk disk' (Err (Read fault.Memory)) = ⊤
HasRunCause s k d source source' out out' disk disk' (Err Sink) =
    Rises (k.faults out) (k.faults out')
HasRunCause s k d source source' out out' disk disk' (Err (Work Disk)) =
    Rises (d.faults disk) (d.faults disk')
HasRunCause s k d source source' out out' disk disk' (Err (Work NotJournal)) =
    d.tells → IsRefused k d source source' out out' disk
HasRunCause s k d source source' out out' disk disk' (Err (Work (Full would limit))) = ⊤
HasRunCause s k d source source' out out' disk disk' (Err (Work Memory)) = ⊤

-- A run ended with a status, from one state of its source, its sink, its disk and its dial to a
-- later one. Its journal may have so many bytes, and its conflicts are resolved by handlers of
-- this host; and this was heard of masters elsewhere, exchange after exchange. The wires of the
-- dial tell what went over them, or don't.
pub record PlaysScript
    {S K D N W : Type 0}
    (s : SourceGhosts S)
    (k : SinkGhosts K)
    (d : Ghosts D)
    (n : DialGhosts N W)
    (wires : Type 0)
    (host : Host)
    (heard : List Heard)
    (limit status : ℕ)
    (source source' : S)
    (out out' : K)
    (disk disk' : D)
    (dial dial' : N) : Type 0 where
  -- how it ended, which its status tells
  pub ended : Result Bool EarlyEnd
  pub is_status : status ≡ status_of ended
  -- Whatever the source and the disk tell: behind what it had the sink took some bytes, and then
  -- the last line of that end, or a front of it where it failed.
  pub line : k.tells → (told : List ℕ) × Stops k.tells (k.faults out) (k.faults out')
      (k.written out) (k.written out') told (last_words ended)
  -- Some lines are done, and their replies are written, or a front of them where the sink failed,
  -- and then the stop line. Where it ended before the input did, no more of that was taken than the
  -- lines done, one line more, and a piece behind it. The dial shows what was heard in each line.
  -- At each moment of the call each image of the disk is a legal file of the old records and a
  -- front of those that are due, and at its end it has all those of the lines done.
  pub headline : s.tells → FromStart d disk (λ bodies w.
      HasRun host heard wires (stands n dial) (stands n dial') k.tells (k.faults out)
      (k.faults out') (k.written out) (k.written out') w (s.left source) (s.left source') ended
      (KeepsRun in_groups host heard d disk disk' bodies w limit))
  -- Over any disk: the same of what was written, from some world on.
  pub over_any_disk : s.tells → HasRunSomewhere host heard wires (stands n dial) (stands n dial')
      k.tells (k.faults out) (k.faults out') (k.written out) (k.written out') (s.left source)
      (s.left source') ended
  -- Also where the source doesn't tell what it gives, each image is a legal file that goes on from
  -- the old records, at each moment of the call and at its end.
  pub legal : FromStart d disk (λ bodies w. StaysLegal d disk disk' bodies)
  -- A file that isn't legal stays as it was, and nothing that a crash leaves is new.
  pub illegal : d.tells → IsIllegalFile (d.content disk) → IsUntouched d disk disk'
  -- It ended so for that cause, and only over a journal where it needs one.
  pub cause : HasRunCause s k d source source' out out' disk disk' ended
  pub stood : d.tells → NeedsJournal ended → IsJournalOfSome (d.content disk)
  -- Unless the input was too long, no more was taken of it than it may have.
  pub within : s.tells → (ended ≡ Err (Read fault.TooLong) → ⊥)
      → Took 0 (s.left source) (s.left source') (λ given. given ≤ max_input_bytes)
  -- the counts of calls that failed don't fall
  pub counts : (s.faults source ≤ s.faults source') × (k.faults out ≤ k.faults out')
      × (d.faults disk ≤ d.faults disk') × (n.faults dial ≤ n.faults dial')
