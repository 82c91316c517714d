-- Legal files, and what a disk holds.
use Rattle.std.specs.Prelude.{◌≡◌, ◌<◌, ◌^◌, ℕ, List, ◌++◌, Some}
use Rattle.rx_disk.specs.declared.disk.Disk.{Ghosts}
use Rattle.rx_disk.specs.Moments.{LeavesOnly}
use Rattle.rx_frame.specs.File.{StandsFor, end_of}
use Rattle.rx_journal.specs.Opening.{IsBegun}
use Rattle.rx_journal.specs.Ready.{IsReady}
use Rattle.rx_journal.specs.declared.journal.Journal.{Journal}
use Rattle.rx_world.specs.Sound.{IsSoundWorld}
use Rattle.rx_world.specs.World.{World}
use Rattle.rx_store.specs.Versions.{file_version, replay_of}

-- ---- files

-- a file is legal: it stands for bodies that end where a journal may end, and by its version they
-- make a sound world
pub record IsLegalFile (file : List ℕ) (bodies : List (List ℕ)) (w : World) : Type 0 where
  pub stands : StandsFor file bodies
  pub short : end_of bodies < 2 ^ 32
  pub plays : replay_of file bodies ≡ Some w
  pub sound : IsSoundWorld w

-- no bodies and no world make the file legal
abbrev pub IsIllegalFile : List ℕ → Type 0
IsIllegalFile file = (bodies : List (List ℕ)) (w : World) → IsLegalFile file bodies w → ⊥

-- some bodies and some world do
abbrev pub IsJournalOfSome : List ℕ → Type 0
IsJournalOfSome file = (bodies : List (List ℕ)) × (w : World) × IsLegalFile file bodies w

-- bytes stand for the bodies, in the version of a file
pub record StandsAlike (file : List ℕ) (bodies : List (List ℕ)) (c : List ℕ) : Type 0 where
  pub stands : StandsFor c bodies
  pub version : file_version c ≡ file_version file

-- bytes are a legal file of these bodies and a front of some more
pub record StandsLegally (bodies more : List (List ℕ)) (c : List ℕ) : Type 0 where
  pub front : List (List ℕ)
  pub rest : List (List ℕ)
  pub whole : more ≡ front ++ rest
  pub stands : StandsFor c (bodies ++ front)
  pub short : end_of (bodies ++ front) < 2 ^ 32
  pub world : World
  pub legal : replay_of c (bodies ++ front) ≡ Some world
  pub sound : IsSoundWorld world

-- ---- disks

-- a crash now leaves a file of these bodies, of the version that a read gives
abbrev pub ImagesStandFor : {D : Type 0} → Ghosts D → D → List (List ℕ) → Type 0
ImagesStandFor d disk bodies =
    (c : List ℕ) → d.image disk c → StandsAlike (d.content disk) bodies c

-- a crash now leaves a legal file of the bodies and a front of some more
abbrev pub Leaves : {D : Type 0} → Ghosts D → D → List (List ℕ) → List (List ℕ) → Type 0
Leaves d disk bodies more = (c : List ℕ) → d.image disk c → StandsLegally bodies more c

-- at each moment from the old disk to the new one, each image is a legal file of the bodies and a
-- front of some more
abbrev pub GrowsLegally
    : {D : Type 0} → Ghosts D → D → D → List (List ℕ) → List (List ℕ) → Type 0
GrowsLegally d old new bodies more = LeavesOnly d old new (StandsLegally bodies more)

-- the disk holds exactly these bodies, in a file that is begun, and by its version they make the
-- world, which is sound
pub record Holds
    {D : Type 0}
    (d : Ghosts D)
    (disk : D)
    (journal : Journal)
    (bodies : List (List ℕ))
    (w : World) : Type 0 where
  pub ready : IsReady d disk journal bodies
  pub begun : IsBegun (d.content disk) bodies
  pub played : replay_of (d.content disk) bodies ≡ Some w
  pub sound : IsSoundWorld w
