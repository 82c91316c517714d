-- How a run ends: its status, and the line that tells why it stopped.
use Rattle.std.specs.Prelude.{◌≡◌, ◌⊎◌, ℕ, List, [], ◌++◌, codes, decimal, Bool, true, false, Result, Ok, Err}
use Rattle.rx_outside.specs.Failed.{Rises}
use Rattle.rx_outside.specs.Sink.{WritesFront}
use Rattle.rx_outside.specs.declared.stop.Stop.{Stop}
use Rattle.rx_outside.specs.declared.stop.Stop.TheVariants.{Disk, NotJournal, Full, Memory}
use Rattle.rx_top.specs.declared.early_end.EarlyEnd.{EarlyEnd}
use Rattle.rx_top.specs.declared.early_end.EarlyEnd.TheVariants.{Read, Sink, Work}
use Rattle.rx_top.specs.declared.early_end.ReadFault.TheVariants as fault

-- the status where the work on a journal stopped
abbrev pub stop_status : Stop → ℕ
stop_status Disk = 3
stop_status Memory = 6
stop_status NotJournal = 7
stop_status (Full would limit) = 8

-- the status of a run: of one that was played to its end, with a refusal or without, or of a stop
abbrev pub status_of : Result Bool EarlyEnd → ℕ
status_of (Ok false) = 0
status_of (Ok true) = 1
status_of (Err (Work stop)) = stop_status stop
status_of (Err (Read fault.Failed)) = 4
status_of (Err Sink) = 5
status_of (Err (Read fault.Memory)) = 6
status_of (Err (Read fault.TooLong)) = 9

-- the line that names a stop
abbrev pub stop_line : List ℕ → List ℕ
stop_line name = codes "{\"stop\":\"" ++ (name ++ codes "\"}\n")

-- that of a journal which is full
abbrev pub full_line : ℕ → ℕ → List ℕ
full_line would limit =
    (codes "{\"limit\":" ++ decimal limit)
    ++ ((codes ",\"stop\":\"full\",\"would\":" ++ decimal would) ++ codes "}\n")

-- the last line where the work on a journal stopped
abbrev pub stop_words : Stop → List ℕ
stop_words Disk = stop_line (codes "disk")
stop_words NotJournal = stop_line (codes "not_journal")
stop_words (Full would limit) = full_line would limit
stop_words Memory = stop_line (codes "memory")

-- the last line of a run, which one that was played to its end lacks, and one whose sink failed
abbrev pub last_words : Result Bool EarlyEnd → List ℕ
last_words (Ok refused) = []
last_words (Err (Work stop)) = stop_words stop
last_words (Err (Read fault.Failed)) = stop_line (codes "read")
last_words (Err (Read fault.Memory)) = stop_line (codes "memory")
last_words (Err (Read fault.TooLong)) = stop_line (codes "too_long")
last_words (Err Sink) = []

-- bytes joined those that were there
abbrev pub Appends : List ℕ → List ℕ → Type 0
Appends old new = (told : List ℕ) × (new ≡ old ++ told)

-- After what it had the sink took the line, or a front of it where it failed.
abbrev pub EndsWith : Type 0 → ℕ → ℕ → List ℕ → List ℕ → List ℕ → Type 0
EndsWith tells faults faults' old new line =
    tells → (new ≡ old ++ line) ⊎ (WritesFront old new line × Rises faults faults')

-- the same after what it was told
abbrev pub Stops : Type 0 → ℕ → ℕ → List ℕ → List ℕ → List ℕ → List ℕ → Type 0
Stops tells faults faults' old new told line = EndsWith tells faults faults' (old ++ told) new line
