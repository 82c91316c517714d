-- What a disk holds of chunks of records, as those of a line or of a request. A chunk is a list of
-- bodies, and nothing here knows what they mean.
use Rattle.std.specs.Prelude.{◌≡◌, ◌≤◌, ◌⊎◌, ℕ, List, [], ◌∷◌, ◌++◌, Option, None, Some}
use Rattle.rx_disk.specs.declared.disk.Disk.{Ghosts}
use Rattle.rx_frame.specs.File.{end_of}
use Rattle.rx_outside.specs.declared.stop.Stop.{Stop}
use Rattle.rx_outside.specs.declared.stop.Stop.TheVariants.{Full}
use Rattle.rx_store.specs.Holds.{GrowsLegally, Leaves}
use Rattle.rx_store.specs.Safe.{IsFull}

-- the bodies of all chunks
abbrev pub all_of : List (List (List ℕ)) → List (List ℕ)
all_of [] = []
all_of (chunk ∷ chunks) = chunk ++ all_of chunks

-- Moment by moment: between the disk before a group and the disk after it each image is a legal
-- file of the bodies of all groups before and a front of that group. So it never falls behind a
-- group that was kept, nor passes the one that is being written.
abbrev pub Steps
    : {D : Type 0} → Ghosts D → D → D → List (List ℕ) → List (List (List ℕ)) → Type 0
Steps d old new bodies [] = GrowsLegally d old new bodies []
Steps {D} d old new bodies (group ∷ groups) =
    (mid : D) × GrowsLegally d old mid bodies group × Steps d mid new (bodies ++ group) groups

-- whether chunks are committed one by one, or some of them together
pub data Grouping : Type 0 where
  singly : Grouping
  in_groups : Grouping

-- chunks that were committed together, group by group: a group has the bodies of some chunks, one
-- after another
abbrev pub AreGrouped : List (List (List ℕ)) → List (List (List ℕ)) → Type 0
AreGrouped chunks [] = chunks ≡ []
AreGrouped chunks (group ∷ groups) =
    (first : List (List (List ℕ))) × (rest : List (List (List ℕ))) × (chunks ≡ first ++ rest)
    × (group ≡ all_of first) × AreGrouped rest groups

-- so they were, or each was committed by itself
abbrev pub AreCommitted : Grouping → List (List (List ℕ)) → List (List (List ℕ)) → Type 0
AreCommitted singly chunks groups = groups ≡ chunks
AreCommitted in_groups chunks groups = AreGrouped chunks groups

-- what may stand behind the chunks that were kept: a front of what was due next where the work on
-- it stopped, and else nothing
abbrev pub ahead : Option Stop → List (List ℕ) → List (List ℕ)
ahead None next = []
ahead (Some stop) next = next

-- Chunks were kept one after the other behind the bodies that were there, until some work stopped,
-- on what was due next, or none did.
pub record Keeps
    {D : Type 0}
    (by : Grouping)
    (d : Ghosts D)
    (old new : D)
    (bodies : List (List ℕ))
    (chunks : List (List (List ℕ)))
    (next : List (List ℕ))
    (limit : ℕ)
    (stop : Option Stop) : Type 0 where
  -- at each moment an image is a legal file of the old bodies and a front of these
  pub moments : GrowsLegally d old new bodies (all_of chunks ++ ahead stop next)
  -- moment by moment: the chunks, group by group, up to some disk, and what was due next from there
  pub groups : List (List (List ℕ))
  pub committed : AreCommitted by chunks groups
  pub mid : D
  pub steps : Steps d old mid bodies groups
  pub last : GrowsLegally d mid new (bodies ++ all_of chunks) (ahead stop next)
  -- and now each image has all bodies of the chunks
  pub sure : Leaves d new (bodies ++ all_of chunks) (ahead stop next)
  -- the limit: the record that would end past it was left out
  pub fits : (chunks ≡ []) ⊎ (end_of (bodies ++ all_of chunks) ≤ limit)
  pub full : (would most : ℕ) → stop ≡ Some (Full would most)
      → (most ≡ limit) × IsFull d new (bodies ++ all_of chunks) next would most
