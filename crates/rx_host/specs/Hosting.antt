-- A master at work over a disk and a clock.
use Rattle.std.specs.Prelude.{◌≡◌, ◌≤◌, ℕ, List, [], ◌++◌, Option, None, Some}
use Rattle.rx_collection.specs.Held.{Held}
use Rattle.rx_disk.specs.declared.disk.Disk.{Ghosts}
use Rattle.rx_outside.specs.Failed.{Rises}
use Rattle.rx_outside.specs.declared.stop.Stop.{Stop}
use Rattle.rx_outside.specs.declared.stop.Stop.TheVariants.{Disk, NotJournal}
use Rattle.rx_serve.specs.Answered.{Commits}
use Rattle.rx_host.specs.Engine.{IsAt, collection_of, limit_of, name_of}
use Rattle.rx_host.specs.Keeping.{Keeps}
use Rattle.rx_host.specs.Records.{bodies_of}
use Rattle.rx_host.specs.Worlds.{no_collection}
use Rattle.rx_host.specs.declared.host.Work.{Work}
use Rattle.rx_host.specs.declared.host.Work.TheVariants.{Going, Stopped}

-- the collection, its name and the limit, while it goes on
abbrev pub collection_in : Work → Held
collection_in (Going m) = collection_of m
collection_in (Stopped why) = no_collection

abbrev pub served_name : Work → List ℕ
served_name (Going m) = name_of m
served_name (Stopped why) = []

abbrev pub limit_in : Work → ℕ
limit_in (Going m) = limit_of m
limit_in (Stopped why) = 0

-- why it stopped, if it did
abbrev pub stop_in : Work → Option Stop
stop_in (Going m) = None
stop_in (Stopped why) = Some why

-- it goes on, and the disk is as it left it
abbrev pub IsWorking : {D : Type 0} → Ghosts D → D → Work → List (List ℕ) → Type 0
IsWorking d disk (Going m) bodies = IsAt d disk m bodies
IsWorking d disk (Stopped why) bodies = ⊥

-- What was done from one moment to a later one, at which it goes on or was stopped: these commits
-- were kept, and of more a front may be there.
pub record Hosts
    {D : Type 0}
    (d : Ghosts D)
    (disk disk' : D)
    (work work' : Work)
    (sure more : Commits) : Type 0 where
  pub name : stop_in work' ≡ None → served_name work' ≡ served_name work
  pub limit : stop_in work' ≡ None → limit_in work' ≡ limit_in work
  pub keeps : d.tells → (bodies : List (List ℕ)) → IsWorking d disk work bodies
      → Keeps d disk disk' bodies (served_name work) (limit_in work) sure more (stop_in work')
  pub goes_on : d.tells → (bodies : List (List ℕ)) → IsWorking d disk work bodies
      → stop_in work' ≡ None
      → IsWorking d disk' work' (bodies ++ bodies_of (served_name work) sure)
  pub count : d.faults disk ≤ d.faults disk'
  pub disk_only : stop_in work' ≡ Some Disk → Rises (d.faults disk) (d.faults disk')
  pub lawful : stop_in work' ≡ Some NotJournal → ⊥
