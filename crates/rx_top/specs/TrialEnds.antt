-- What the end of a trial tells of its journal.
use Rattle.std.specs.Prelude.{◌≡◌, ◌≤◌, ◌⊎◌, ⊤, ℕ, List, ◌++◌, Option, None, Some}
use Rattle.rx_disk.specs.declared.disk.Disk.{Ghosts}
use Rattle.rx_engine.specs.Opening.{Host, opened}
use Rattle.rx_frame.specs.File.{end_of}
use Rattle.rx_outside.specs.Failed.{Rises}
use Rattle.rx_outside.specs.declared.dial.Dial.{Ghosts as DialGhosts}
use Rattle.rx_outside.specs.declared.sink.Sink.{Ghosts as SinkGhosts}
use Rattle.rx_outside.specs.declared.stop.Stop.{Stop}
use Rattle.rx_outside.specs.declared.stop.Stop.TheVariants.{Disk, NotJournal, Full, Memory}
use Rattle.rx_store.specs.Holds.{IsLegalFile}
use Rattle.rx_sync.specs.Remote.{Heard}
use Rattle.rx_trial.specs.Lines.{script}
use Rattle.rx_world.specs.World.{World}
use Rattle.rx_top.specs.Run.{IsDue, run_bodies}
use Rattle.rx_top.specs.Start.{FromStart}
use Rattle.rx_top.specs.Tally.{summary_of}
use Rattle.rx_top.specs.TriesScript.{TriesScript}

-- a trial, from one state of what it reaches to a later one
pub record Tried
    {K D N W : Type 0}
    (k : SinkGhosts K)
    (d : Ghosts D)
    (n : DialGhosts N W)
    (wires : Type 0) : Type 0 where
  pub host : Host
  pub heard : List Heard
  pub limit : ℕ
  pub seed : ℕ
  pub count : ℕ
  pub status : ℕ
  pub out : K
  pub out' : K
  pub disk : D
  pub disk' : D
  pub dial : N
  pub dial' : N
  pub tries : TriesScript k d n wires host heard limit seed count status out out' disk disk' dial
      dial'

module _
    {K D N W : Type 0}
    (k : SinkGhosts K)
    (d : Ghosts D)
    (n : DialGhosts N W)
    (wires : Type 0)
    (r : Tried k d n wires)
    (bodies : List (List ℕ))
    (w : World)
  where
    abbrev pub drawn : List (List ℕ)
    drawn = script r.seed r.count

    -- each image has exactly the records of the whole script, within the limit
    pub record IsTriedWhole : Type 0 where
      pub kept : (c : List ℕ) → d.image r.disk' c → (after : World)
          × IsLegalFile c (bodies ++ run_bodies r.host r.heard w drawn) after
      pub fits : end_of (bodies ++ run_bodies r.host r.heard w drawn) ≤ r.limit

    -- the whole script was played, and the sink took exactly its summary
    pub record IsSummedUp : Type 0 where
      pub status : r.status ≡ 0
      pub told : k.tells → k.written r.out'
          ≡ k.written r.out ++ summary_of drawn (opened r.host r.heard w)
      pub whole : IsTriedWhole

    -- by why it stopped, if it did: a record that is due would end past the limit, and isn't there
    abbrev pub EndsSo : Option Stop → Type 0
    EndsSo None = IsTriedWhole
    EndsSo (Some (Full would most)) =
        (most ≡ r.limit) × (done : List (List ℕ)) × (rest : List (List ℕ))
        × IsDue r.host r.heard d r.disk' bodies w drawn done rest would r.limit
    EndsSo (Some Disk) = ⊤
    EndsSo (Some NotJournal) = ⊤
    EndsSo (Some Memory) = ⊤

    -- nothing outside failed, and all records fit
    pub record IsWellServed : Type 0 where
      pub sink : Rises (k.faults r.out) (k.faults r.out') → ⊥
      pub disk : Rises (d.faults r.disk) (d.faults r.disk') → ⊥
      pub fits : end_of (bodies ++ run_bodies r.host r.heard w drawn) ≤ r.limit

-- over a journal each trial holds to what its end tells
abbrev pub TrialsEndSo
    : {K D N W : Type 0} → SinkGhosts K → Ghosts D → DialGhosts N W → Type 0 → Type 0
TrialsEndSo k d n wires =
    (r : Tried k d n wires) → FromStart d r.disk (λ bodies w. EndsSo k d n wires r bodies w
    r.tries.stop)

-- Completeness: such a trial over a journal plays its whole script and sums it up, unless memory is
-- wanting.
abbrev pub TrialsAreComplete
    : {K D N W : Type 0} → SinkGhosts K → Ghosts D → DialGhosts N W → Type 0 → Type 0
TrialsAreComplete k d n wires =
    (r : Tried k d n wires) → FromStart d r.disk (λ bodies w.
    IsWellServed k d n wires r bodies w
    → IsSummedUp k d n wires r bodies w ⊎ (r.status ≡ 6))
