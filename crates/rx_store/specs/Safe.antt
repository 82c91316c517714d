-- What a call over a disk leaves, wherever it ended.
use Rattle.std.specs.Prelude.{◌≡◌, ◌<◌, ◌≤◌, ◌⊎◌, ℕ, List, [], ◌∷◌, ◌++◌, Result, IfOk, IsErrOf}
use Rattle.rx_outside.specs.Failed.{Rises}
use Rattle.rx_disk.specs.declared.disk.Disk.{Ghosts}
use Rattle.rx_frame.specs.File.{StandsFor, end_of}
use Rattle.rx_outside.specs.declared.stop.Stop.{Stop}
use Rattle.rx_outside.specs.declared.stop.Stop.TheVariants.{Disk, NotJournal, Full}
use Rattle.rx_store.specs.Holds.{GrowsLegally, ImagesStandFor}

-- A record that is due would end past the limit, after the bodies and the records before it. It was
-- left out: a read gives those before it alone, now and after a crash.
pub record IsFull
    {D : Type 0}
    (d : Ghosts D)
    (disk : D)
    (bodies more : List (List ℕ))
    (would limit : ℕ) : Type 0 where
  pub before : List (List ℕ)
  pub body : List ℕ
  pub behind : List (List ℕ)
  pub whole : more ≡ before ++ body ∷ behind
  pub would_end : would ≡ end_of (bodies ++ before ++ body ∷ [])
  pub past : limit < would
  pub content : StandsFor (d.content disk) (bodies ++ before)
  pub images : ImagesStandFor d disk (bodies ++ before)

-- A call began with a legal file of the bodies, and was to add some more.
pub record IsCrashSafe
    {D A : Type 0}
    (d : Ghosts D)
    (old new : D)
    (bodies more : List (List ℕ))
    (limit : ℕ)
    (IsAt : A → List (List ℕ) → Type 0)
    (result : Result A Stop) : Type 0 where
  -- where a crash before the call would have left the bodies, each image at each moment of it is a
  -- legal file of them and a front of those that were to come
  pub moments : ImagesStandFor d old bodies → GrowsLegally d old new bodies more
  -- at `Ok` all have come, and end within the limit
  pub at : IfOk result (λ x. IsAt x (bodies ++ more))
  pub fits : IfOk result (λ _. (more ≡ []) ⊎ (end_of (bodies ++ more) ≤ limit))
  -- it is full only where one that was to come would end past the limit, and was left out
  pub full : (would most : ℕ) → IsErrOf result (Full would most)
      → (most ≡ limit) × IsFull d new bodies more would most
  -- a legal file isn't refused
  pub not_journal : IsErrOf result NotJournal → ⊥

-- the count of a disk's faults never falls, and a stop by the disk shows in it
pub record HasDiskCause {A : Type 0} (before now : ℕ) (result : Result A Stop) : Type 0 where
  pub later : before ≤ now
  pub failed : IsErrOf result Disk → Rises before now
