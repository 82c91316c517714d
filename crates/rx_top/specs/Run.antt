-- What a run over a journal wrote and left, wherever it ended.
use Rattle.rx_serve.specs.Lines.{cut}
use Rattle.std.specs.Prelude.{◌≡◌, ◌≤◌, ◌⊎◌, ⊤, ℕ, ◌+◌, List, [], ◌∷◌, ◌++◌, length, take, Bool, Option, None, Some, Result, Ok, Err, OnOk}
use Rattle.rx_disk.specs.declared.disk.Disk.{Ghosts}
use Rattle.rx_engine.specs.Dialled.{DialStanding}
use Rattle.rx_engine.specs.Engine.{IsAt, limit_of}
use Rattle.rx_engine.specs.declared.engine.Engine.{Engine}
use Rattle.rx_engine.specs.Opening.{Host, epoch_body, opened}
use Rattle.rx_frame.specs.File.{end_of}
use Rattle.rx_engine.specs.Standing.{Standing}
use Rattle.rx_sync.specs.Remote.{Heard}
use Rattle.rx_store.specs.Safe.{IsFull}
use Rattle.rx_outside.specs.Sink.{WritesFront}
use Rattle.rx_outside.specs.declared.source.Source.{Ghosts as SourceGhosts}
use Rattle.rx_outside.specs.declared.stop.Stop.{Stop}
use Rattle.rx_outside.specs.declared.stop.Stop.TheVariants.{Disk, NotJournal, Full, Memory}
use Rattle.rx_world.specs.World.{World}
use Rattle.rx_top.specs.Chunks.{Grouping, Keeps, all_of, in_groups, singly}
use Rattle.rx_top.specs.Hears.{HearsAll}
use Rattle.rx_top.specs.Lines.{lines}
use Rattle.rx_top.specs.Reader.{Took, max_input_bytes, max_piece_bytes}
use Rattle.rx_top.specs.Script.{line_effect, transcript}
use Rattle.rx_top.specs.Start.{FromStart}
use Rattle.rx_top.specs.Stops.{EndsWith, Stops, last_words}
use Rattle.rx_top.specs.Story.{EachLine, Step, any_refused, chunks, next_chunk, replies, state_after}
use Rattle.rx_top.specs.Turns.{HoldsOfTurn}
use Rattle.rx_top.specs.declared.early_end.EarlyEnd.{EarlyEnd}
use Rattle.rx_top.specs.declared.early_end.EarlyEnd.TheVariants.{Read, Sink, Work}
use Rattle.rx_top.specs.declared.early_end.ReadFault.TheVariants as fault

-- ---- what the source gave

-- No more was given than the lines done, one line more, and a piece behind it: each line is played
-- before another piece is asked for. The lines that are played together with that one lie in the
-- piece.
pub record IsReadPromptly (input left : List ℕ) (done : List (List ℕ)) : Type 0 where
  pub front : List ℕ
  pub ahead : List ℕ
  pub given : input ≡ front ++ (ahead ++ left)
  pub few : length (lines front) ≤ length done + 1
  pub piece : length ahead ≤ max_piece_bytes

-- all was taken where the input was played to its end, and no more than an input may have, unless
-- that is why it ended
pub record TakesInput
    {S : Type 0}
    (s : SourceGhosts S)
    (source source' : S)
    (ended : Result Bool EarlyEnd) : Type 0 where
  pub whole : s.tells → OnOk ended (s.left source' ≡ [])
  pub within : s.tells → (ended ≡ Err (Read fault.TooLong) → ⊥)
      → Took 0 (s.left source) (s.left source') (λ given. given ≤ max_input_bytes)

-- ---- what the sink got

-- which lines of an input are done, by how the play of them ended
abbrev pub Reads
    : {S : Type 0} → Step S → Result Bool EarlyEnd → List ℕ → List ℕ → List (List ℕ) → List (List ℕ)
    → S → Type 0
-- all of them
Reads step (Ok refused) input left done rest s =
    (rest ≡ []) × (refused ≡ any_refused step 1 done s)
-- those that ended in what the source gave before it failed
Reads step (Err (Read fault.Failed)) input left done rest s =
    (given : List ℕ) × (input ≡ given ++ left) × (done ≡ (cut given).whole)
-- those that end within the limit, past which one byte was given
Reads step (Err (Read fault.TooLong)) input left done rest s =
    (given : List ℕ) × (input ≡ given ++ left) × (length given ≡ max_input_bytes + 1)
    × (done ≡ (cut (take max_input_bytes given)).whole)
-- those before the one that stopped
Reads step (Err (Read fault.Memory)) input left done rest s = IsReadPromptly input left done
Reads step (Err (Work stop)) input left done rest s = IsReadPromptly input left done
-- those before the one whose reply the sink failed to take, and that one
Reads step (Err Sink) input left done rest s = IsReadPromptly input left done

-- the replies are written, or a front of them where the sink failed
abbrev pub Writes : Result Bool EarlyEnd → List ℕ → List ℕ → List ℕ → Type 0
Writes (Ok refused) old new replies = new ≡ old ++ replies
Writes (Err (Read fault)) old new replies = new ≡ old ++ replies
Writes (Err (Work stop)) old new replies = new ≡ old ++ replies
Writes (Err Sink) old new replies = WritesFront old new replies

-- How the play of an input ends: some lines are done, and of no other was a byte of its reply
-- written. What a dial shows of them, and what a disk keeps of the lines done and may keep of the
-- rest, is said beside it.
pub record Plays
    {S : Type 0}
    (step : Step S)
    (Each : ℕ → List ℕ → S → S → Type 0)
    (tells : Type 0)
    (written written' : List ℕ)
    (input left : List ℕ)
    (s : S)
    (ended : Result Bool EarlyEnd)
    (Shown Kept : List (List ℕ) → List (List ℕ) → Type 0) : Type 0 where
  pub done : List (List ℕ)
  pub rest : List (List ℕ)
  pub whole : lines input ≡ done ++ rest
  -- so much holds of each line done
  pub each : EachLine step Each 1 done s
  pub reads : Reads step ended input left done rest s
  pub writes : tells → Writes ended written written' (replies step 1 done s)
  pub shown : Shown done rest
  pub kept : Kept done rest

-- ---- what the disk holds

-- why work stopped, where it did
abbrev pub stop_of : Result Bool EarlyEnd → Option Stop
stop_of (Ok refused) = None
stop_of (Err (Read fault)) = None
stop_of (Err (Work stop)) = Some stop
stop_of (Err Sink) = None

-- only over a journal does a run end so: lines were played, or a record that was due did not fit
abbrev pub NeedsJournal : Result Bool EarlyEnd → Type 0
NeedsJournal (Ok refused) = Unit
NeedsJournal (Err (Read fault.Failed)) = Unit
NeedsJournal (Err (Read fault.TooLong)) = Unit
NeedsJournal (Err (Read fault.Memory)) = ⊥
NeedsJournal (Err (Work (Full would limit))) = Unit
NeedsJournal (Err (Work Disk)) = ⊥
NeedsJournal (Err (Work NotJournal)) = ⊥
NeedsJournal (Err (Work Memory)) = ⊥
NeedsJournal (Err Sink) = Unit

-- lines were played: neither did work stop, nor did the reader lack memory
abbrev pub WasPlayed : Result Bool EarlyEnd → Type 0
WasPlayed (Ok refused) = Unit
WasPlayed (Err (Read fault.Failed)) = Unit
WasPlayed (Err (Read fault.TooLong)) = Unit
WasPlayed (Err (Read fault.Memory)) = ⊥
WasPlayed (Err (Work stop)) = ⊥
WasPlayed (Err Sink) = Unit

-- what was due where work stopped: the chunk of the next line where lines are committed one by one,
-- and also where it was full; and else those of all lines that were left
abbrev pub due_then
    : Grouping → Option Stop → ℕ → List (List ℕ) → Standing → List (List ℕ)
due_then singly stop n rest s = next_chunk line_effect n rest s
due_then in_groups (Some (Full would most)) n rest s = next_chunk line_effect n rest s
due_then in_groups (Some Disk) n rest s = all_of (chunks line_effect n rest s)
due_then in_groups (Some NotJournal) n rest s = all_of (chunks line_effect n rest s)
due_then in_groups (Some Memory) n rest s = all_of (chunks line_effect n rest s)
due_then in_groups None n rest s = all_of (chunks line_effect n rest s)

-- the disk keeps the lines that are done, each a chunk
abbrev pub KeepsLines
    : {D : Type 0} → Grouping → Ghosts D → D → D → List (List ℕ) → Standing → ℕ
    → Result Bool EarlyEnd → List (List ℕ) → List (List ℕ) → Type 0
KeepsLines by d old new bodies s limit ended done rest =
    Keeps by d old new bodies (chunks line_effect 1 done s)
    (due_then by (stop_of ended) (length done + 1) rest (state_after line_effect 1 done s)) limit
    (stop_of ended)

-- the same from an engine on, whatever bodies its disk has within the limit
abbrev pub KeepsFrom
    : {D : Type 0} → Grouping → Standing → Ghosts D → D → D → Engine → Result Bool EarlyEnd
    → List (List ℕ) → List (List ℕ) → Type 0
KeepsFrom by s d old new first ended done rest =
    d.tells → (bodies : List (List ℕ)) → IsAt d old first bodies → end_of bodies ≤ limit_of first
    → KeepsLines by d old new bodies s (limit_of first) ended done rest

-- the chunks of a run: the record of its epoch, and those of its lines
abbrev pub run_chunks : Host → List Heard → World → List (List ℕ) → List (List (List ℕ))
run_chunks host heard w done = (epoch_body w ∷ []) ∷ chunks line_effect 1 done
    (opened host heard w)

-- their bodies
abbrev pub run_bodies : Host → List Heard → World → List (List ℕ) → List (List ℕ)
run_bodies host heard w done = all_of (run_chunks host heard w done)

-- the chunk that is due after lines
abbrev pub due_after : Host → List Heard → World → List (List ℕ) → List (List ℕ) → List (List ℕ)
due_after host heard w done rest =
    next_chunk line_effect (length done + 1) rest
    (state_after line_effect 1 done (opened host heard w))

-- what was due after lines where work stopped
abbrev pub due_at
    : Grouping → Host → List Heard → World → Option Stop → List (List ℕ) → List (List ℕ)
    → List (List ℕ)
due_at by host heard w stop done rest =
    due_then by stop (length done + 1) rest (state_after line_effect 1 done (opened host heard w))

-- The disk keeps the chunks of a run from the journal as it was found: where that wasn't opened
-- none, and the record of the epoch was due; and where it was, that one with those of the lines
-- done.
abbrev pub KeepsRun
    : {D : Type 0} → Grouping → Host → List Heard → Ghosts D → D → D → List (List ℕ) → World → ℕ
    → Result Bool EarlyEnd → List (List ℕ) → List (List ℕ) → Type 0
KeepsRun by host heard d old new bodies w limit ended done rest =
    ((WasPlayed ended → ⊥) × (done ≡ [])
    × Keeps by d old new bodies [] (epoch_body w ∷ []) limit (stop_of ended))
    ⊎ Keeps by d old new bodies (run_chunks host heard w done)
    (due_at by host heard w (stop_of ended) done rest) limit (stop_of ended)

-- What is said of a play that an opening began, by how things stood then and what the disk keeps:
-- over a journal as it was found, and, where nothing is known of the disk, from some world.
pub record FromOpening
    {D : Type 0}
    (by : Grouping)
    (host : Host)
    (heard : List Heard)
    (d : Ghosts D)
    (old new : D)
    (limit : ℕ)
    (ended : Result Bool EarlyEnd)
    (Says : Standing → (List (List ℕ) → List (List ℕ) → Type 0) → Type 0) : Type 0 where
  pub found : FromStart d old (λ bodies w.
      Says (opened host heard w) (KeepsRun by host heard d old new bodies w limit ended))
  pub somewhere : (w : World) × Says (opened host heard w) (λ done rest. ⊤)

-- ---- both, and the end

-- A run ended so, and its last line, or a front of it where the sink failed, stands behind the
-- replies. What was heard in its lines its dial shows. What it kept is said of how it ended, the
-- lines done and the rest.
pub record HasRun
    (host : Host)
    (heard : List Heard)
    (wires : Type 0)
    (dial dial' : DialStanding)
    (tells : Type 0)
    (faults faults' : ℕ)
    (written written' : List ℕ)
    (w : World)
    (input left : List ℕ)
    (ended : Result Bool EarlyEnd)
    (Kept : Result Bool EarlyEnd → List (List ℕ) → List (List ℕ) → Type 0) : Type 0 where
  -- what the sink had before the last line
  pub before : List ℕ
  pub run : Plays line_effect HoldsOfTurn tells written before input left (opened host heard w)
      ended
      (HearsAll wires (opened host heard w) dial dial' ended) (Kept ended)
  pub line : EndsWith tells faults faults' before written' (last_words ended)

-- the same where nothing is known of the disk: some world has the session that the run began with
abbrev pub HasRunSomewhere
    : Host → List Heard → Type 0 → DialStanding → DialStanding → Type 0 → ℕ → ℕ → List ℕ → List ℕ
    → List ℕ → List ℕ → Result Bool EarlyEnd → Type 0
HasRunSomewhere host heard wires dial dial' tells faults faults' written written' input left ended =
    (w : World)
    × HasRun host heard wires dial dial' tells faults faults' written written' w input left ended
    (λ ended done rest. ⊤)

-- the replies to some lines, from the first on, and then a line that tells of a stop
abbrev pub StopsAfter
    : Type 0 → ℕ → ℕ → List ℕ → List ℕ → List (List ℕ) → Standing → List ℕ → Type 0
StopsAfter tells faults faults' written written' lines s line =
    (done : List (List ℕ)) × (rest : List (List ℕ)) × (lines ≡ done ++ rest)
    × Stops tells faults faults' written written' (transcript done s) line

-- a record that is due next would end past the limit and was left out: that of the epoch, or one of
-- the next line
pub record IsDue
    {D : Type 0}
    (host : Host)
    (heard : List Heard)
    (d : Ghosts D)
    (disk : D)
    (bodies : List (List ℕ))
    (w : World)
    (lines done rest : List (List ℕ))
    (would limit : ℕ) : Type 0 where
  pub whole : lines ≡ done ++ rest
  pub past : ((done ≡ []) × IsFull d disk bodies (epoch_body w ∷ []) would limit)
      ⊎ IsFull d disk (bodies ++ run_bodies host heard w done) (due_after host heard w done rest)
      would limit
