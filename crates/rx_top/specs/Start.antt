-- A journal that a run may begin with.
use Rattle.std.specs.Prelude.{◌≡◌, ℕ, List, [], ◌++◌}
use Rattle.rx_disk.specs.Disk.{Only}
use Rattle.rx_disk.specs.declared.disk.Disk.{Ghosts}
use Rattle.rx_store.specs.Holds.{GrowsLegally, ImagesStandFor, IsLegalFile, Leaves}
use Rattle.rx_world.specs.World.{World, empty}

-- a disk whose file is legal, and stays so in a crash
pub record IsStart {D : Type 0} (d : Ghosts D) (disk : D) (bodies : List (List ℕ)) (w : World) :
    Type 0 where
  pub legal : IsLegalFile (d.content disk) bodies w
  pub alike : ImagesStandFor d disk bodies

-- a fact of each run that begins with such a disk, by the bodies that it has and their world
abbrev pub FromStart : {D : Type 0} → Ghosts D → D → (List (List ℕ) → World → Type 0) → Type 0
FromStart d disk P =
    d.tells → (bodies : List (List ℕ)) (w : World) → IsStart d disk bodies w → P bodies w

-- a disk holds a file, and a crash leaves that file and nothing else
pub record IsSettled {D : Type 0} (d : Ghosts D) (disk : D) (file : List ℕ) : Type 0 where
  pub content : d.content disk ≡ file
  pub only : Only file (d.image disk)

-- each image, at each moment of a run and now, is a legal file that goes on from the old bodies
pub record StaysLegal {D : Type 0} (d : Ghosts D) (old new : D) (bodies : List (List ℕ)) : Type 0
  where
    pub more : List (List ℕ)
    pub moments : GrowsLegally d old new bodies more
    pub now : Leaves d new bodies more

-- Going on: a file that a crash may leave at some moment of a run, on a disk that holds it and
-- nothing else, is a journal that a run may begin with, and it has the bodies that were there.
abbrev pub GoesOn : {D E : Type 0} → Ghosts D → Ghosts E → Type 0
GoesOn {D} {E} d e =
    (old new : D) (bodies : List (List ℕ)) → StaysLegal d old new bodies
    → (file : List ℕ) → d.image_since new (d.moment old) file
    → (disk : E) → IsSettled e disk file
    → (added : List (List ℕ)) × (w : World) × IsStart e disk (bodies ++ added) w

-- A disk that holds nothing, and a crash leaves nothing on it, is a journal without records.
abbrev pub StartsEmpty : {D : Type 0} → Ghosts D → Type 0
StartsEmpty {D} d = (disk : D) → IsSettled d disk [] → IsStart d disk [] empty
