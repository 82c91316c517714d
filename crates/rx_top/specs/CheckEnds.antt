-- What the end of a check tells.
use Rattle.std.specs.Prelude.{◌≡◌, ◌⊎◌, ℕ, List, ◌++◌, length}
use Rattle.rx_disk.specs.declared.disk.Disk.{Ghosts}
use Rattle.rx_frame.specs.File.{end_of}
use Rattle.rx_host.specs.Report.{report_of}
use Rattle.rx_outside.specs.Failed.{Rises}
use Rattle.rx_outside.specs.declared.sink.Sink.{Ghosts as SinkGhosts}
use Rattle.rx_store.specs.Holds.{IsLegalFile}
use Rattle.rx_world.specs.World.{World}
use Rattle.rx_top.specs.ReportsJournal.{ReportsJournal}

-- a check, from one state of what it reaches to a later one
pub record Checked {K D : Type 0} (k : SinkGhosts K) (d : Ghosts D) : Type 0 where
  pub status : ℕ
  pub out : K
  pub out' : K
  pub disk : D
  pub disk' : D
  pub reports : ReportsJournal k d status out out' disk disk'

module _
    {K D : Type 0}
    (k : SinkGhosts K)
    (d : Ghosts D)
    (r : Checked k d)
    (bodies : List (List ℕ))
    (w : World)
  where
    -- the sink took exactly the report of these records and their world
    pub record IsReportedWhole : Type 0 where
      pub status : r.status ≡ 0
      pub told : k.tells → k.written r.out'
          ≡ k.written r.out ++ report_of w (end_of bodies) (length bodies)

    -- nothing outside failed
    pub record IsWellServed : Type 0 where
      pub sink : Rises (k.faults r.out) (k.faults r.out') → ⊥
      pub disk : Rises (d.faults r.disk) (d.faults r.disk') → ⊥

-- Completeness: such a check of a legal file reports all of it, unless memory is wanting.
abbrev pub ChecksAreComplete : {K D : Type 0} → SinkGhosts K → Ghosts D → Type 0
ChecksAreComplete k d =
    (r : Checked k d) → d.tells → (bodies : List (List ℕ)) (w : World)
    → IsLegalFile (d.content r.disk) bodies w → IsWellServed k d r bodies w
    → IsReportedWhole k d r bodies w ⊎ (r.status ≡ 6)
