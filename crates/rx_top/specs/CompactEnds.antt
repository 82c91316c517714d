-- What the end of a copy tells.
use Rattle.std.specs.Prelude.{◌≡◌, ◌≤◌, ◌⊎◌, ℕ, List, ◌++◌, map}
use Rattle.rx_compact.specs.Plan.{plan}
use Rattle.rx_disk.specs.declared.disk.Disk.{Ghosts}
use Rattle.rx_frame.specs.File.{end_of}
use Rattle.rx_outside.specs.Failed.{Rises}
use Rattle.rx_outside.specs.declared.sink.Sink.{Ghosts as SinkGhosts}
use Rattle.rx_record.specs.Content.{content_bytes}
use Rattle.rx_world.specs.Copy.{most_copied_epoch}
use Rattle.rx_world.specs.World.{World}
use Rattle.rx_top.specs.CopiesJournal.{CopiesJournal, IsMade, OverJournals}

-- a copying of a journal, from one state of what it reaches to a later one
pub record Compacts {K D E : Type 0} (k : SinkGhosts K) (d : Ghosts D) (e : Ghosts E) : Type 0 where
  pub limit : ℕ
  pub status : ℕ
  pub out : K
  pub out' : K
  pub disk : D
  pub disk' : D
  pub copy : E
  pub copy' : E
  pub copies : CopiesJournal k d e limit status out out' disk disk' copy copy'

module _
    {K D E : Type 0}
    (k : SinkGhosts K)
    (d : Ghosts D)
    (e : Ghosts E)
    (r : Compacts k d e)
    (bodies : List (List ℕ))
    (w : World)
  where
    -- the copy is whole, and the sink took exactly the line that tells of it
    pub record IsCopiedWhole : Type 0 where
      pub status : r.status ≡ 0
      pub line : List ℕ
      pub told : k.tells → k.written r.out' ≡ k.written r.out ++ line
      pub made : IsMade e r.copy' line bodies w

    -- nothing outside failed, the journal's epoch isn't too great, and all records of the copy fit
    pub record IsWellServed : Type 0 where
      pub sink : Rises (k.faults r.out) (k.faults r.out') → ⊥
      pub disk : Rises (d.faults r.disk) (d.faults r.disk') → ⊥
      pub copy : Rises (e.faults r.copy) (e.faults r.copy') → ⊥
      pub epoch : w.epoch ≤ most_copied_epoch
      pub fits : end_of (map content_bytes (plan w)) ≤ r.limit

-- Completeness: such a copying of a legal file into an empty one makes the copy, unless memory is
-- wanting.
abbrev pub CompactsAreComplete
    : {K D E : Type 0} → SinkGhosts K → Ghosts D → Ghosts E → Type 0
CompactsAreComplete k d e =
    (r : Compacts k d e) → OverJournals d e r.disk r.copy (λ bodies w.
    IsWellServed k d e r bodies w → IsCopiedWhole k d e r bodies w ⊎ (r.status ≡ 6))
