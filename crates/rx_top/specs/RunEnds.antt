-- What the end of a run tells of its input, its sink and its journal.
use Rattle.rx_serve.specs.Lines.{cut}
use Rattle.std.specs.Prelude.{◌≡◌, ◌≤◌, ◌⊎◌, ℕ, ◌+◌, List, ◌++◌, length, take, Bool, codes, Result, Ok, Err, if◌then◌else◌}
use Rattle.rx_disk.specs.declared.disk.Disk.{Ghosts}
use Rattle.rx_engine.specs.Opening.{Host, opened}
use Rattle.rx_engine.specs.Standing.{Standing}
use Rattle.rx_frame.specs.File.{end_of}
use Rattle.rx_outside.specs.Failed.{Rises}
use Rattle.rx_outside.specs.Sink.{WritesFront}
use Rattle.rx_outside.specs.declared.dial.Dial.{Ghosts as DialGhosts}
use Rattle.rx_outside.specs.declared.sink.Sink.{Ghosts as SinkGhosts}
use Rattle.rx_outside.specs.declared.source.Source.{Ghosts as SourceGhosts}
use Rattle.rx_outside.specs.declared.stop.Stop.TheVariants.{Disk, NotJournal, Full, Memory}
use Rattle.rx_store.specs.Holds.{IsLegalFile}
use Rattle.rx_sync.specs.Remote.{Heard}
use Rattle.rx_world.specs.World.{World}
use Rattle.rx_top.specs.Lines.{lines}
use Rattle.rx_top.specs.PlaysScript.{PlaysScript}
use Rattle.rx_top.specs.Reader.{max_input_bytes}
use Rattle.rx_top.specs.Run.{IsDue, StopsAfter, run_bodies}
use Rattle.rx_top.specs.Script.{has_refusal, line_effect, transcript}
use Rattle.rx_top.specs.Start.{FromStart}
use Rattle.rx_top.specs.Stops.{Stops, full_line, stop_line}
use Rattle.rx_top.specs.Story.{EachLine}
use Rattle.rx_top.specs.Turns.{HoldsOfTurn}
use Rattle.rx_top.specs.declared.early_end.EarlyEnd.{EarlyEnd}
use Rattle.rx_top.specs.declared.early_end.EarlyEnd.TheVariants.{Read, Sink, Work}
use Rattle.rx_top.specs.declared.early_end.ReadFault.TheVariants as fault

-- a run, from one state of what it reaches to a later one
pub record Ran
    {S K D N W : Type 0}
    (s : SourceGhosts S)
    (k : SinkGhosts K)
    (d : Ghosts D)
    (n : DialGhosts N W)
    (wires : Type 0) : Type 0 where
  pub host : Host
  pub heard : List Heard
  pub limit : ℕ
  pub status : ℕ
  pub source : S
  pub source' : S
  pub out : K
  pub out' : K
  pub disk : D
  pub disk' : D
  pub dial : N
  pub dial' : N
  pub plays : PlaysScript s k d n wires host heard limit status source source' out out' disk disk'
      dial dial'

module _
    {S K D N W : Type 0}
    (s : SourceGhosts S)
    (k : SinkGhosts K)
    (d : Ghosts D)
    (n : DialGhosts N W)
    (wires : Type 0)
    (r : Ran s k d n wires)
    (bodies : List (List ℕ))
    (w : World)
  where
    -- as things stand once the journal was opened
    abbrev pub first : Standing
    first = opened r.host r.heard w

    abbrev pub input : List (List ℕ)
    input = lines (s.left r.source)

    -- after what it had the sink took the replies to these lines, and then the line, or a front of
    -- it where it failed
    abbrev pub SaysAfter : List (List ℕ) → List ℕ → Type 0
    SaysAfter done line =
        Stops k.tells (k.faults r.out) (k.faults r.out') (k.written r.out) (k.written r.out')
        (transcript done first) line

    -- The whole input was played: 1 tells that a line was refused; the sink took exactly the
    -- transcript; each image has exactly the records of all lines, within the limit; and each turn,
    -- sweep and delivery kept what it promises.
    pub record IsPlayedWhole : Type 0 where
      pub refusal : r.status ≡ (if has_refusal input first then 1 else 0)
      pub told : k.tells → k.written r.out' ≡ k.written r.out ++ transcript input first
      pub kept : (c : List ℕ) → d.image r.disk' c → (after : World)
          × IsLegalFile c (bodies ++ run_bodies r.host r.heard w input) after
      pub fits : end_of (bodies ++ run_bodies r.host r.heard w input) ≤ r.limit
      pub turns : EachLine line_effect HoldsOfTurn 1 input first

    -- work stopped behind some lines, and the line that tells why
    abbrev pub StopsBehindSome : List ℕ → Type 0
    StopsBehindSome line =
        StopsAfter k.tells (k.faults r.out) (k.faults r.out') (k.written r.out) (k.written r.out')
        input first line

    -- what holds by its end
    abbrev pub EndsSo : Result Bool EarlyEnd → Type 0
    EndsSo (Ok refused) = IsPlayedWhole
    -- after the lines that ended in what the source gave before it failed
    EndsSo (Err (Read fault.Failed)) =
        (given : List ℕ) × (s.left r.source ≡ given ++ s.left r.source')
        × SaysAfter (cut given).whole (stop_line (codes "read"))
    -- one byte past the limit was given; after the lines that end within it
    EndsSo (Err (Read fault.TooLong)) =
        (given : List ℕ) × (s.left r.source ≡ given ++ s.left r.source')
        × (length given ≡ max_input_bytes + 1)
        × SaysAfter (cut (take max_input_bytes given)).whole (stop_line (codes "too_long"))
    EndsSo (Err (Read fault.Memory)) = StopsBehindSome (stop_line (codes "memory"))
    -- the sink took a front of the transcript
    EndsSo (Err Sink) = k.tells
        → WritesFront (k.written r.out) (k.written r.out') (transcript input first)
    EndsSo (Err (Work Disk)) = StopsBehindSome (stop_line (codes "disk"))
    EndsSo (Err (Work NotJournal)) = StopsBehindSome (stop_line (codes "not_journal"))
    -- a record that is due would end past the limit, the line says where, and it isn't there
    EndsSo (Err (Work (Full would most))) =
        (most ≡ r.limit) × (done : List (List ℕ)) × (rest : List (List ℕ))
        × IsDue r.host r.heard d r.disk' bodies w input done rest would r.limit
        × SaysAfter done (full_line would r.limit)
    EndsSo (Err (Work Memory)) = StopsBehindSome (stop_line (codes "memory"))

    -- nothing outside failed, the input is short enough, and all records fit
    pub record IsWellServed : Type 0 where
      pub source : Rises (s.faults r.source) (s.faults r.source') → ⊥
      pub sink : Rises (k.faults r.out) (k.faults r.out') → ⊥
      pub disk : Rises (d.faults r.disk) (d.faults r.disk') → ⊥
      pub short : length (s.left r.source) ≤ max_input_bytes
      pub fits : end_of (bodies ++ run_bodies r.host r.heard w input) ≤ r.limit

-- over a journal each run holds to what its end tells
abbrev pub RunsEndSo
    : {S K D N W : Type 0} → SourceGhosts S → SinkGhosts K → Ghosts D → DialGhosts N W → Type 0
    → Type 0
RunsEndSo s k d n wires =
    (r : Ran s k d n wires) → s.tells
    → FromStart d r.disk (λ bodies w. EndsSo s k d n wires r bodies w r.plays.ended)

-- Completeness: such a run over a journal plays its whole input, unless memory is wanting.
abbrev pub RunsAreComplete
    : {S K D N W : Type 0} → SourceGhosts S → SinkGhosts K → Ghosts D → DialGhosts N W → Type 0
    → Type 0
RunsAreComplete s k d n wires =
    (r : Ran s k d n wires) → s.tells → FromStart d r.disk (λ bodies w.
    IsWellServed s k d n wires r bodies w
    → IsPlayedWhole s k d n wires r bodies w ⊎ (r.status ≡ 6))
