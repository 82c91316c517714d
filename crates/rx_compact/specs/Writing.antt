-- A copy as it is written: which records of it are there, and what a crash leaves of it.
use Rattle.std.specs.Prelude.{◌≡◌, ◌⊎◌, ◌≤◌, ◌<◌, ℕ, List, [], ◌∷◌, ◌++◌, map, length, Result, Ok, IfOk, IfSome, IsErrOf, ◌^◌}
use Rattle.std.specs.List.{AllByRecursion}
use Rattle.rx_disk.specs.declared.disk.Disk.{Ghosts}
use Rattle.rx_disk.specs.Moments.{LeavesOnly}
use Rattle.rx_frame.specs.File.{BeginsWith, StandsFor, end_of, second_header, shortest}
use Rattle.rx_journal.specs.Ready.{IsStaged}
use Rattle.rx_outside.specs.declared.stop.Stop.{Stop}
use Rattle.rx_outside.specs.declared.stop.Stop.TheVariants.{Full, NotJournal}
use Rattle.rx_record.specs.Content.{Content, content_bytes, record_of}
use Rattle.rx_record.specs.Writable.{HasTime}
use Rattle.rx_store.specs.Holds.{ImagesStandFor, IsIllegalFile, IsLegalFile}
use Rattle.rx_store.specs.Safe.{HasDiskCause}
use Rattle.rx_world.specs.Copy.{most_copied_epoch}
use Rattle.rx_world.specs.Sound.{IsSoundWorld}
use Rattle.rx_world.specs.World.{World}
use Rattle.rx_world.specs.declared.replication.Replication.{Replication}
use Rattle.rx_compact.specs.Laws.{AreTokened}
use Rattle.rx_compact.specs.Plan.{plan}
use Rattle.rx_compact.specs.declared.copying.Copied.{Copied}
use Rattle.rx_compact.specs.declared.writing.Copying.{Copying}

-- ---- while it is written

-- the record is read from its bytes
abbrev pub IsRead : Content → Type 0
IsRead c = record_of (content_bytes c) ≡ Ok c

-- bytes are too short for records, or a file of the second version with a front of these
abbrev pub IsFront : List Content → List ℕ → Type 0
IsFront cs c =
    (length c ≤ shortest)
    ⊎ ((front : List Content) × (rest : List Content) × (cs ≡ front ++ rest)
    × AllByRecursion IsRead front × StandsFor c (map content_bytes front)
    × (end_of (map content_bytes front) < 2 ^ 32) × BeginsWith second_header c)

-- These records are on a disk or to be written, in a file of the second version, and counted. At
-- each moment from the first on an image is a front of them.
pub record HasWritten {D : Type 0} (d : Ghosts D) (first now : D) (copy : Copying)
    (cs : List Content) : Type 0 where
  pub bodies : List (List ℕ)
  pub more : List (List ℕ)
  pub split : map content_bytes cs ≡ bodies ++ more
  pub staged : IsStaged d now copy.journal bodies more
  pub second : BeginsWith second_header (d.content now)
  pub read : AllByRecursion IsRead cs
  pub counted : copy.records ≡ length cs
  pub moments : LeavesOnly d first now (IsFront cs)

-- a copy is being written: some records of it are there
abbrev pub IsGoing : {D : Type 0} → Ghosts D → D → Copying → Type 0
IsGoing {D} d disk copy =
    d.tells → (first : D) × (cs : List Content) × HasWritten d first disk copy cs

-- a record of these would end past the limit, behind those before it
pub record IsPast (cs : List Content) (would limit : ℕ) : Type 0 where
  pub front : List Content
  pub entry : Content
  pub rest : List Content
  pub whole : cs ≡ front ++ entry ∷ rest
  pub would_end : would ≡ end_of (map content_bytes (front ++ entry ∷ []))
  pub past : limit < would

-- the checkpoints of a replication have write times
pub record HasTimes (r : Replication) : Type 0 where
  pub up : IfSome r.side.up HasTime
  pub down : IfSome r.side.down HasTime

-- A call was to add some records to a copy, wherever it ended.
pub record Adds {D : Type 0} (d : Ghosts D) (old new : D) (copy : Copying) (more : List Content)
    (result : Result Copying Stop) : Type 0 where
  pub written : d.tells → (first : D) (cs : List Content) → HasWritten d first old copy cs
      → IfOk result (λ next. HasWritten d first new next (cs ++ more))
  pub moments : d.tells → (first : D) (cs : List Content) → HasWritten d first old copy cs
      → LeavesOnly d first new (IsFront (cs ++ more))
  pub full : d.tells → (first : D) (cs : List Content) → HasWritten d first old copy cs
      → (would most : ℕ) → IsErrOf result (Full would most)
      → (most ≡ copy.journal.limit) × IsPast (cs ++ more) would most
  pub limit : IfOk result (λ next. next.journal.limit ≡ copy.journal.limit)
  pub not_journal : IsErrOf result NotJournal → ⊥
  pub cause : HasDiskCause (d.faults old) (d.faults new) result

-- ---- once it is written

-- the disk holds a copy of a world, and each image of it has the same records; these are counted,
-- and so are its bytes
pub record IsCopied {D : Type 0} (d : Ghosts D) (disk : D) (w : World)
    (made : Copied) : Type 0 where
  pub content : IsLegalFile (d.content disk) (map content_bytes (plan w)) w
  pub images : ImagesStandFor d disk (map content_bytes (plan w))
  pub records : made.records ≡ length (plan w)
  pub end : made.end ≡ end_of (map content_bytes (plan w))

-- bytes are too short for records, or are no journal, or make the world
abbrev pub IsSafeCopy : World → List ℕ → Type 0
IsSafeCopy w c =
    (length c ≤ shortest) ⊎ IsIllegalFile c
    ⊎ ((bodies : List (List ℕ)) × IsLegalFile c bodies w)

-- A call was to write the copy of a world into an empty file, wherever it ended.
pub record WritesCopy {D : Type 0} (d : Ghosts D) (old new : D) (w : World) (limit : ℕ)
    (result : Result Copied Stop) : Type 0 where
  -- at `Ok` the file and each image of it are a legal file of the world's copy
  pub copied : d.tells → IsSoundWorld w → AreTokened w → w.epoch ≤ most_copied_epoch
      → IfOk result (IsCopied d new w)
  -- at each moment an image has no record, is no journal, or makes the world
  pub moments : d.tells → IsSoundWorld w → AreTokened w → w.epoch ≤ most_copied_epoch
      → LeavesOnly d old new (IsSafeCopy w)
  -- it is full only where a record that is due would end past the limit
  pub full : d.tells → (would most : ℕ) → IsErrOf result (Full would most)
      → (most ≡ limit) × IsPast (plan w) would most
  pub not_journal : IsErrOf result NotJournal → ⊥
  pub cause : HasDiskCause (d.faults old) (d.faults new) result
